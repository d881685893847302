use Rattle.lucy_io.proofs.Journals.{counts}
use Rattle.lucy_io.proofs.laws.fetch_counts_failures.Goals as goal

pub returns : goal.returns
returns c = counts
