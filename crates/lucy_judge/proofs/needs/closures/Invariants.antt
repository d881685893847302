use Rattle.std.proofs.Common.{◌≡◌, ◌++◌, drop}
use Rattle.lucy_judge.specs.Judging as spec
use Rattle.lucy_judge.proofs.needs.closures.Given as goal

abbrev pub invariant-loop-k : goal.invariant-loop-k
invariant-loop-k l = l.names ++ spec.closures_from l.k (drop l.k l.segments) ≡ spec.closures_from 0 l.segments
