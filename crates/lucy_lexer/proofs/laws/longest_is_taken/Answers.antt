use Rattle.std.proofs.lemmas.List.Elements.{All-from_recursion}
use Rattle.std.proofs.Common.{refl}
use Rattle.lucy_lexer.specs.Laws.{IsLongest}
use Rattle.lucy_lexer.specs.Reading.{tokens_of}
use Rattle.lucy_lexer.proofs.Lengths.{longest}
use Rattle.lucy_lexer.proofs.Cuts.{standing, all_of}
use Rattle.lucy_lexer.proofs.laws.longest_is_taken.Goals as goal

pub returns : goal.returns
unfolding tokens_of
returns c = λ z ts e. All-from_recursion (IsLongest z) ts
    (all_of _ (IsLongest z) (λ t h kind n below spelled. longest _ t.kind _ h.0 n below kind spelled) ts (standing z 0 z refl ts e))
