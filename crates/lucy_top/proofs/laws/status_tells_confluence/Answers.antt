use Rattle.lucy_top.proofs.ConfluenceLemmas.{tells_confluence}
use Rattle.lucy_top.proofs.laws.status_tells_confluence.Goals as goal

pub returns : goal.returns
returns c = tells_confluence c.broken_is_not_confluent.ensures
