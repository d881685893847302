use Rattle.lucy_words.proofs.Fitting.{numbers_are_within as numbers_are_within_lem}
use Rattle.lucy_words.proofs.laws.numbers_are_within.Goals as goal

pub returns : goal.returns
returns c = numbers_are_within_lem
