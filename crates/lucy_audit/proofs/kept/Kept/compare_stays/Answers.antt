use Rattle.std.proofs.Common.{rules, ◌≤◌, get_or, arith}
use Rattle.lucy_audit.specs.Checks.{left_of, IsStayCounted}
use Rattle.lucy_audit.proofs.Places.{below_more}
use Rattle.lucy_audit.proofs.Seating.{life_at}
use Rattle.lucy_audit.proofs.Reaching.{all_stays}
use Rattle.lucy_audit.proofs.kept.Kept.compare_stays.Goals as goal

pub loop-number-preserved : goal.loop-number-preserved
loop-number-preserved c =
    below_more (IsStayCounted (left_of c.args.self.now) c.args.place) c.loop-number.number c.loop-number.invariant c.in_ok-compare_stay.ensures.ok

pub returns-clause-ok : goal.returns-clause-ok
returns-clause-ok c =
    let kept = c.args.self.now in
    let life = c.index-self-place.result in
    let many = c.how_many_records-number-end in
    let past : many.result ≤ c.loop-number.number = search rules in
    all_stays (left_of kept) c.args.place many.result (get_or kept.lives.now c.args.place life).replica (life_at kept c.args.place life c.requires.within) many.ensures
    (λ number h. c.loop-number.invariant number (omega (arith, h, past)))
