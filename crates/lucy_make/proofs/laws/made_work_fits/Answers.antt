use Rattle.lucy_make.proofs.WorkLemmas.{made_work_fits as made_work_fits_lem}
use Rattle.lucy_make.proofs.laws.made_work_fits.Goals as goal

pub returns : goal.returns
returns c = made_work_fits_lem
