use Rattle.std.proofs.Common.{◌≡◌, ◌≤◌, ◌^◌, drop}
use Rattle.lucy_clauses.specs.Parts.{ascends}
use Rattle.lucy_clauses.proofs.NormalTests.{ascends_from}
use Rattle.lucy_clauses.proofs.normality.ascend.Given as goal

abbrev pub invariant-loop-part : goal.invariant-loop-part
invariant-loop-part l = (ascends l.parts ≡ ascends_from l.least (drop l.part-index l.parts)) × (l.least ≤ 2 ^ 32)
