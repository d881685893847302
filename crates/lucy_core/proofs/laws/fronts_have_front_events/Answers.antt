use Rattle.lucy_core.proofs.RunLemmas.{fronts_have_front_events}
use Rattle.lucy_core.proofs.laws.fronts_have_front_events.Goals as goal

pub returns : goal.returns
returns c = fronts_have_front_events
