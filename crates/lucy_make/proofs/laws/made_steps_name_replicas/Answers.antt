use Rattle.lucy_make.proofs.StepLemmas.{made_steps_name_replicas as made_steps_name_replicas_lem}
use Rattle.lucy_make.proofs.laws.made_steps_name_replicas.Goals as goal

pub returns : goal.returns
returns c = made_steps_name_replicas_lem
