use Rattle.lucy_lexer.specs.Reading.{tokens_of}
use Rattle.lucy_lexer.proofs.Cuts.{gapped}
use Rattle.lucy_lexer.proofs.laws.gaps_are_skipped.Goals as goal

pub returns : goal.returns
unfolding tokens_of
returns c = λ z ts e. (gapped 0 z ts e).1
