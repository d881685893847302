use Rattle.lucy_epochs.proofs.Seats.{from_places, places_from}
use Rattle.lucy_epochs.proofs.laws.are_from_by_places.Goals as goal

pub returns : goal.returns
returns c from epoch parts = (from_places from epoch parts, places_from from epoch parts)
