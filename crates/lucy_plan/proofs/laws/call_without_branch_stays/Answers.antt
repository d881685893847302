use Rattle.lucy_plan.proofs.CallLemmas.{without_branch}
use Rattle.lucy_plan.proofs.laws.call_without_branch_stays.Goals as goal

pub returns : goal.returns
returns c = without_branch
