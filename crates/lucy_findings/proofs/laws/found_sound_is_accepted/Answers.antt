use Rattle.lucy_findings.proofs.Accepting.{found_sound_is_accepted}
use Rattle.lucy_findings.proofs.laws.found_sound_is_accepted.Goals as goal

pub returns : goal.returns
returns c = found_sound_is_accepted c.trimmed_refutes.ensures c.more_live_refutes.ensures c.refutes_exactly.ensures
