use Rattle.std.proofs.lemmas.List.Elements.{All-from_recursion}
use Rattle.std.proofs.Common.{refl}
use Rattle.lucy_lexer.specs.Laws.{Spells, slice_of}
use Rattle.lucy_lexer.specs.Reading.{tokens_of}
use Rattle.lucy_lexer.proofs.Fronts.{found_spells}
use Rattle.lucy_lexer.proofs.Cuts.{standing, all_of}
use Rattle.lucy_lexer.proofs.laws.slices_are_spelled.Goals as goal

pub returns : goal.returns
unfolding tokens_of
returns c = λ z ts e. All-from_recursion (λ t. Spells t.kind (slice_of z t)) ts
    (all_of _ (λ t. Spells t.kind (slice_of z t)) (λ t h. found_spells _ h.1 t.kind _ h.0) ts (standing z 0 z refl ts e))
