use Rattle.std.proofs.Common.{◌≡◌, vec_len}
use Rattle.lucy_cluster.proofs.clusters.newcomers.Given as goal

abbrev pub invariant-loop-number : goal.invariant-loop-number
invariant-loop-number l = vec_len l.lives ≡ l.number
