use Rattle.std.proofs.Common.{◌≡◌, replicate}
use Rattle.lucy_epochs.specs.Sharing.{ruling_of}
use Rattle.lucy_cluster.proofs.deciding.granted.Given as goal

abbrev pub invariant-loop : goal.invariant-loop
invariant-loop l = l.grants.items ≡ replicate l.counter (ruling_of l.ruling)
