use Rattle.lucy_findings.proofs.Meaning.{closed_is_merge_closed}
use Rattle.lucy_findings.proofs.laws.closed_is_merge_closed.Goals as goal

pub returns : goal.returns
returns c = closed_is_merge_closed c.refuted_has_no_model.ensures c.escape_is_closure_model.ensures
