use Rattle.lucy_print_laws.proofs.ReadAgain.{read_again}
use Rattle.lucy_print_laws.proofs.printed_is_read.Goals as goal

pub returns : goal.returns
returns c = read_again c.read_is_spelled.ensures c.read_is_within.ensures c.spelled_is_read.ensures c.spans_ascend.ensures c.printed_is_spelled.ensures
