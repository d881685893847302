use Rattle.lucy_epochs.proofs.Seats.{made_places, places_made}
use Rattle.lucy_epochs.proofs.laws.are_made_by_places.Goals as goal

pub returns : goal.returns
returns c parts = (made_places parts, places_made parts)
