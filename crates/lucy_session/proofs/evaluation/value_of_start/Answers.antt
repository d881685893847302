use Rattle.std.proofs.Common.{rules}
use Rattle.lucy_session.proofs.EvaluationLemmas.{evaluated-start}
use Rattle.lucy_session.proofs.evaluation.value_of_start.Goals as goal

pub returns-clause-value : goal.returns-clause-value
returns-clause-value c = search (rules, evaluated-start)
