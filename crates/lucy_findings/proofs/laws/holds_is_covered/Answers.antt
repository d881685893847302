use Rattle.lucy_findings.proofs.Meaning.{holds_is_covered}
use Rattle.lucy_findings.proofs.laws.holds_is_covered.Goals as goal

pub returns : goal.returns
returns c = holds_is_covered c.refuted_has_no_model.ensures c.uncovered_is_cover_model.ensures
