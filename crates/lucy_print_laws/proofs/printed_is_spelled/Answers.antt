use Rattle.lucy_print_laws.proofs.Again.{again}
use Rattle.lucy_print_laws.proofs.printed_is_spelled.Goals as goal

pub returns : goal.returns
returns c = again c.read_is_spelled.ensures c.spans_ascend.ensures c.slices_are_spelled.ensures c.spaced_tokens_are_read.ensures
