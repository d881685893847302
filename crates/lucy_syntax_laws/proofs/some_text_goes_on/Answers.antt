use Rattle.lucy_syntax_laws.proofs.Viable.{text_goes_on}
use Rattle.lucy_syntax_laws.proofs.some_text_goes_on.Goals as goal

pub returns : goal.returns
returns c = text_goes_on c.equal_kinds.ensures c.spans_ascend.ensures c.slices_are_spelled.ensures c.spaced_tokens_are_read.ensures c.same_words_are_read.ensures
