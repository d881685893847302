use Rattle.lucy_epochs.proofs.Seats.{parts_of-all}
use Rattle.lucy_epochs.proofs.laws.full_seats_give_parts.Goals as goal

pub returns : goal.returns
returns c = parts_of-all
