use Rattle.lucy_session.proofs.ConfluenceLemmas as lemma
use Rattle.lucy_session.proofs.laws.broken_is_not_confluent.Goals as goal

pub returns : goal.returns
returns c = lemma.broken_is_not_confluent
