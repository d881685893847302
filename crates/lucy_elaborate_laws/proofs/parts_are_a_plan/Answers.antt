use Rattle.lucy_elaborate_laws.proofs.Plans.{parts_plan}
use Rattle.lucy_elaborate_laws.proofs.parts_are_a_plan.Goals as goal

pub returns : goal.returns
returns c = λ tree parts e. parts_plan tree parts e
