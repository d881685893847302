use Rattle.lucy_plan.proofs.Ranges.{whole_numbers}
use Rattle.lucy_plan.proofs.laws.whole_numbers_are_state_numbers.Goals as goal

pub returns : goal.returns
returns c = whole_numbers
