use Rattle.std.proofs.Common.{◌≡◌, drop}
use Rattle.std.specs.List.{list_all}
use Rattle.lucy_clauses.specs.Lines.{divides_part}
use Rattle.lucy_clauses.proofs.dividing.divides_all.Given as goal

abbrev pub invariant-loop-part : goal.invariant-loop-part
invariant-loop-part l = list_all (divides_part l.by) l.parts ≡ list_all (divides_part l.by) (drop l.part-index l.parts)
