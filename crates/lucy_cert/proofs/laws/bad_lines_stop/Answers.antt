use Rattle.lucy_cert.proofs.GoingOn.{stops}
use Rattle.lucy_cert.proofs.laws.bad_lines_stop.Goals as goal

pub returns : goal.returns
returns g c = stops g.T.Taker.taken
