use Rattle.lucy_trim.proofs.Keeping.{trimmed_is_writable}
use Rattle.lucy_trim.proofs.laws.trimmed_is_writable.Goals as goal

pub returns : goal.returns
returns c = trimmed_is_writable
