use Rattle.lucy_findings.proofs.Meaning.{sound_is_sound}
use Rattle.lucy_findings.proofs.laws.sound_is_sound.Goals as goal

pub returns : goal.returns
returns c = sound_is_sound c.closed_is_merge_closed.ensures c.holds_is_covered.ensures
