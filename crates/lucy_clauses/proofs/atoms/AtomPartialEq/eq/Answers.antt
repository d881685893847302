use Rattle.lucy_clauses.specs.EqualForms.{is_same_form}
use Rattle.lucy_clauses.proofs.atoms.AtomPartialEq.eq.Goals as goal

pub returns-clause-same : goal.returns-clause-same
returns-clause-same c = is_same_form c.is_same.result c.args.self.now c.args.other.now c.is_same.ensures
