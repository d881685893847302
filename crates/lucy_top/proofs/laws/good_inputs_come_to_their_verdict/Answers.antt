use Rattle.lucy_top.proofs.VerdictLemmas.{come_to_verdict}
use Rattle.lucy_top.proofs.laws.good_inputs_come_to_their_verdict.Goals as goal

pub returns : goal.returns
returns c = come_to_verdict
