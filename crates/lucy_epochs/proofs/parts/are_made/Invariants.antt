use Rattle.std.proofs.Common.{drop}
use Rattle.lucy_epochs.specs.Contributions.{AreMade}
use Rattle.lucy_epochs.proofs.parts.are_made.Given as goal

abbrev pub invariant-loop-part : goal.invariant-loop-part
invariant-loop-part l = AreMade (drop l.part-index l.parts) → AreMade l.parts
