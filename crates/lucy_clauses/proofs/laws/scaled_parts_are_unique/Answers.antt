use Rattle.lucy_clauses.proofs.Uniqueness.{parts_unique}
use Rattle.lucy_clauses.proofs.laws.scaled_parts_are_unique.Goals as goal

pub returns : goal.returns
returns c = parts_unique
