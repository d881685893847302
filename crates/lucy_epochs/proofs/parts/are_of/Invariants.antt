use Rattle.std.proofs.Common.{drop}
use Rattle.lucy_epochs.specs.Contributions.{AreFrom}
use Rattle.lucy_epochs.proofs.parts.are_of.Given as goal

abbrev pub invariant-loop-place : goal.invariant-loop-place
invariant-loop-place l =
    (AreFrom 0 l.epoch l.parts → AreFrom l.place l.epoch (drop l.place l.parts)) × (AreFrom l.place l.epoch (drop l.place l.parts) → AreFrom 0 l.epoch l.parts)
