use Rattle.lucy_audit.proofs.Apart.{agreed_is_not_apart}
use Rattle.lucy_audit.proofs.laws.agreed_is_not_apart.Goals as goal

pub returns : goal.returns
returns c = agreed_is_not_apart c.no_first_segment_is_none.ensures
