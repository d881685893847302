use Rattle.std.proofs.Common.{◌≡◌, take, pos}
use Rattle.lucy_simplex.specs.First.{bumped, zeros}
use Rattle.lucy_simplex.proofs.solving.one_alone.Given as goal

abbrev pub invariant-loop-place : goal.invariant-loop-place
invariant-loop-place l = l.all.items ≡ take l.place (bumped (zeros l.count) l.own (pos 1))
