use Rattle.lucy_make.proofs.Laid.{plan_is_laid}
use Rattle.lucy_make.proofs.laws.made_plan_is_laid.Goals as goal

pub returns : goal.returns
returns c = plan_is_laid
