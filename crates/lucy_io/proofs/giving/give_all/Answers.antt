use Rattle.std.proofs.Common.{◌-◌, subst, arith, ◌≤◌, drop, length, length-take, List, ℕ}
use Rattle.std.proofs.KnownBytes.{Appends-trans}
use Rattle.std.specs.Io.KnownBytes.{Appends}
use Rattle.lucy_io.proofs.Pieces.{given_piece}
use Rattle.lucy_io.proofs.giving.give_all.Goals as goal

pub loop-at-preserved : goal.loop-at-preserved
loop-at-preserved g c =
    let e = c.in_ok-at.ensures in
    let before = c.loop-at.invariant in
    let n = c.in_ok-at.field-0 in
    let k = length c.args.text.now - c.loop-at.at in
    let left = drop c.loop-at.at c.args.text.now in
    let fits : n ≤ k = omega (arith, e.bound.1, c.piece.ensures.size, length-take k left) in
    record {
      within = omega (arith, c.loop-at-test.true, fits);
      later = omega arith;
      given = subst (λ (p : List ℕ). Appends (g.K.Sink.held c.args.sink.now) (g.K.Sink.held c.give.new.self) p) (given_piece c.loop-at.at k n c.args.text.now c.piece.result.now c.piece.ensures.front e.bound.1 fits) (Appends-trans _ _ _ _ _ before.given e.bytes);
    }
