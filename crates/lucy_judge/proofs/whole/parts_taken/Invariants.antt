use Rattle.std.proofs.Common.{◌≡◌, drop}
use Rattle.std.specs.Prelude.{fold}
use Rattle.lucy_judge.specs.Keeping.{IsTrial}
use Rattle.lucy_judge.specs.Trials as spec
use Rattle.lucy_judge.proofs.whole.parts_taken.Given as goal

abbrev pub invariant-loop-part : goal.invariant-loop-part
invariant-loop-part l =
    (fold (spec.whole_part_taken l.plan l.live) l.trial (drop l.part-index l.parts) ≡ fold (spec.whole_part_taken l.plan l.live) l.fn.trial l.parts) × IsTrial l.plan l.trial
