use Rattle.std.proofs.lemmas.List.Elements.{recursion_from_All}
use Rattle.lucy_lexer.specs.Laws.{Spells}
use Rattle.lucy_lexer.specs.Reading.{tokens_of}
use Rattle.lucy_lexer.proofs.Cuts.{spaced}
use Rattle.lucy_lexer.proofs.laws.spaced_tokens_are_read.Goals as goal

pub returns : goal.returns
unfolding tokens_of
returns c = λ ws all. spaced 0 ws (recursion_from_All (λ w. Spells w.kind w.text) ws all)
