use Rattle.lucy_print_laws.proofs.ReadAgain.{same_again}
use Rattle.lucy_print_laws.proofs.printed_again_is_same.Goals as goal

pub returns : goal.returns
returns c = same_again c.printed_is_read.ensures c.places_are_not_printed.ensures
