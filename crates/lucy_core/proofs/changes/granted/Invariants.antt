use Rattle.std.proofs.Common.{◌≡◌, replicate}
use Rattle.std.specs.Prelude.{Some}
use Rattle.lucy_epochs.specs.Sharing.{ruling_of}
use Rattle.lucy_core.proofs.changes.granted.Given as goal

abbrev pub invariant-loop : goal.invariant-loop
invariant-loop l = l.grants.items ≡ replicate l.counter (Some (ruling_of l.ruling))
