use Rattle.std.proofs.Common.{◌-◌, ◌+◌, ◌*◌}
use Rattle.lucy_cluster.proofs.clusters.Cluster.+changing.Given as goal

abbrev pub decreases-descend : goal.decreases-descend
decreases-descend g l = 2 * (l.self.now - l.number) + 1

abbrev pub decreases-hold : goal.decreases-hold
decreases-hold g l = 2 * (l.self.now - l.number)
