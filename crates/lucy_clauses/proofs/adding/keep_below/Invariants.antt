use Rattle.std.proofs.Common.{◌≡◌, ◌++◌, true, drop}
use Rattle.lucy_clauses.specs.Adding.{all_below}
use Rattle.lucy_clauses.proofs.adding.keep_below.Given as goal

abbrev pub invariant-loop-i : goal.invariant-loop-i
invariant-loop-i l =
    (l.sum.items ++ drop l.i l.parts ≡ l.fn.sum.items ++ drop l.place l.parts) × (all_below l.variable l.fn.sum.items ≡ true → all_below l.variable l.sum.items ≡ true)
