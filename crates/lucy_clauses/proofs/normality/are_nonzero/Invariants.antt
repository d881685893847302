use Rattle.std.proofs.Common.{◌≡◌, drop}
use Rattle.lucy_clauses.specs.Parts.{none_zero}
use Rattle.lucy_clauses.proofs.normality.are_nonzero.Given as goal

abbrev pub invariant-loop-part : goal.invariant-loop-part
invariant-loop-part l = none_zero l.parts ≡ none_zero (drop l.part-index l.parts)
