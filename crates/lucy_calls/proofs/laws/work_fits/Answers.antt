use Rattle.lucy_calls.proofs.WorkKept.{work_is}
use Rattle.lucy_calls.proofs.laws.work_fits.Goals as goal

pub returns : goal.returns
returns c = work_is
