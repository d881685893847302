use Rattle.lucy_print_laws.proofs.ReadAgain.{unmoved}
use Rattle.lucy_print_laws.proofs.places_are_not_printed.Goals as goal

pub returns : goal.returns
returns c = unmoved
