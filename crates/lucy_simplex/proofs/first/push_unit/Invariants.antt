use Rattle.std.proofs.Common.{◌≡◌, ◌++◌, take}
use Rattle.lucy_simplex.specs.First.{unit}
use Rattle.lucy_simplex.proofs.first.push_unit.Given as goal

abbrev pub invariant-loop-place : goal.invariant-loop-place
invariant-loop-place l = l.all.items ≡ l.fn.all.items ++ take l.place (unit l.count l.own)
