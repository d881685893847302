use Rattle.std.proofs.Common.{◌≡◌, drop, [], pos}
use Rattle.lucy_clauses.specs.Sums.{form}
use Rattle.lucy_clauses.specs.Lines.{sum_form}
use Rattle.lucy_cuts.proofs.lines.sum_form.Given as goal

abbrev pub invariant-loop-one : goal.invariant-loop-one
invariant-loop-one l =
    sum_form l.atoms l.ranges l.done l.times (form [] (pos 0)) ≡ sum_form l.atoms l.ranges l.done (drop l.one-index l.times) l.sum
