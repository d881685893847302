use Rattle.lucy_elaborate_laws.proofs.Objects.{object_sound}
use Rattle.lucy_elaborate_laws.proofs.objects_are_sound.Goals as goal

pub returns : goal.returns
returns c = λ fields scope e. object_sound fields scope e
