use Rattle.lucy_judge.proofs.Walking.{in_parts}
use Rattle.lucy_judge.proofs.laws.judged_in_parts.Goals as goal

pub returns : goal.returns
returns c = in_parts c.checkers_are_exact.ensures
