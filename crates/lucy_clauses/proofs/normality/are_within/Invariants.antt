use Rattle.std.proofs.Common.{◌≡◌, drop}
use Rattle.lucy_clauses.specs.Parts.{all_within}
use Rattle.lucy_clauses.proofs.normality.are_within.Given as goal

abbrev pub invariant-loop-part : goal.invariant-loop-part
invariant-loop-part l = all_within l.parts ≡ all_within (drop l.part-index l.parts)
