use Rattle.std.proofs.Common.{subst}
use Rattle.lucy_epochs.specs.Contributions.{AreMade}
use Rattle.lucy_epochs.proofs.parts.Parts.list.Goals as goal

pub returns-clause-made : goal.returns-clause-made
returns-clause-made c = subst AreMade c.self.view_is c.self.invariant.1
