use Rattle.std.proofs.Common.{[], take}
use Rattle.lucy_simplex.specs.Steps.{Appends}
use Rattle.lucy_simplex.proofs.first.fractions_of.Given as goal

abbrev pub invariant-loop-place : goal.invariant-loop-place
invariant-loop-place l = Appends [] (take l.place l.numbers) l.all.items
