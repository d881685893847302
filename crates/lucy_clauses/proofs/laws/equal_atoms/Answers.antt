use Rattle.lucy_clauses.specs.EqualForms.{equal_atoms}
use Rattle.lucy_clauses.proofs.laws.equal_atoms.Goals as goal

pub returns : goal.returns
returns c = equal_atoms
