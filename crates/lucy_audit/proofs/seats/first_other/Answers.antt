use Rattle.std.proofs.Common.{rules, ◌≤◌, length, arith}
use Rattle.lucy_audit.proofs.Places.{same_lists}
use Rattle.lucy_audit.proofs.seats.first_other.Goals as goal

pub returns : goal.returns
returns c =
    let past : length c.args.ours.now ≤ c.loop-place.place = search rules in
    same_lists c.args.ours.now c.args.theirs.now c.requires (λ place h. c.loop-place.invariant place (omega (arith, h, past)))
