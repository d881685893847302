use Rattle.std.proofs.Common.{◌≡◌, ◌++◌, take, map, neg_ℤ}
use Rattle.lucy_simplex.specs.First.{dense}
use Rattle.lucy_simplex.proofs.first.push_factors.Given as goal

abbrev pub invariant-loop-variable : goal.invariant-loop-variable
invariant-loop-variable l = l.all.items ≡ l.fn.all.items ++ take l.variable (map neg_ℤ (dense l.count l.parts))
