use Rattle.lucy_cert.proofs.GoingOn.{goes_on}
use Rattle.lucy_cert.proofs.laws.texts_go_on.Goals as goal

pub returns : goal.returns
returns g c = goes_on g.T.Taker.taken
