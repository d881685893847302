use Rattle.std.proofs.Common.{subst}
use Rattle.lucy_epochs.specs.Collections.{AreSeated}
use Rattle.lucy_epochs.proofs.collecting.Collect.facts.Goals as goal

pub returns : goal.returns
returns c = subst AreSeated c.self.view_is c.self.invariant
