use Rattle.std.proofs.Common.{◌≡◌, ◌++◌, drop}
use Rattle.lucy_cluster.proofs.clusters.copied.Given as goal

abbrev pub invariant-loop-call : goal.invariant-loop-call
invariant-loop-call l = l.copy.items ++ drop l.call-index l.calls ≡ l.calls
