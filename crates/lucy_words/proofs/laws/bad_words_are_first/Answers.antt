use Rattle.lucy_words.proofs.FirstPlaces.{bad_words_are_first as bad_words_are_first_lem}
use Rattle.lucy_words.proofs.laws.bad_words_are_first.Goals as goal

pub returns : goal.returns
returns c = bad_words_are_first_lem
