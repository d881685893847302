use Rattle.lucy_cert.proofs.GoingOn.{cuts_do_not_matter}
use Rattle.lucy_cert.proofs.laws.cuts_do_not_matter.Goals as goal

pub returns : goal.returns
returns g c = cuts_do_not_matter g.T.Taker.taken
