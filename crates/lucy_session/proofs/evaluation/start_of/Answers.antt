use Rattle.std.proofs.Common.{rules}
use Rattle.lucy_walks.proofs.EntryLemmas.{whole_length}
use Rattle.lucy_session.proofs.evaluation.start_of.Goals as goal

pub returns-clause-even : goal.returns-clause-even
returns-clause-even c = search (rules, whole_length)
