use Rattle.lucy_session.proofs.ConfluenceLemmas as lemma
use Rattle.lucy_session.proofs.laws.closed_is_confluent.Goals as goal

pub returns : goal.returns
returns c = lemma.closed_is_confluent
