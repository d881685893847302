use Rattle.lucy_elaborate_laws.proofs.Txns.{txn_in_range}
use Rattle.lucy_elaborate_laws.proofs.txns_are_in_range.Goals as goal

pub returns : goal.returns
returns c = λ scope given n m made fields e. txn_in_range scope given n m made fields e
