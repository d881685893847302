use Rattle.std.proofs.Common.{◌≡◌, List, ℕ, [], ◌∷◌, ◌++◌, Option, Some, sym, ap, ◌∙◌}
use Rattle.lucy_clauses.specs.declared.lines.Times.{Times}
use Rattle.lucy_cert.specs.Entries.{Pieces, times_of, sum_of}
use Rattle.lucy_cert.specs.Options.{◌>>=◌}
use Rattle.lucy_cert.proofs.entry_lines.sum_terms.Goals as goal

one_more : (found new : List Times) (t : Times) (ps qs rest : Pieces) (p q : List ℕ) (said : Option (List Times))
    → ps ≡ p ∷ qs → qs ≡ q ∷ rest → Some t ≡ times_of p q → new ≡ found ++ t ∷ [] → sum_of found ps ≡ said → sum_of new rest ≡ said
one_more found new t ps qs rest p q said first second is pushed so =
    ap (λ (xs : List Times). sum_of xs rest) pushed
    ∙ ap (λ (o : Option Times). o >>= λ x. sum_of (found ++ x ∷ []) rest) is
    ∙ sym (ap (λ (xs : Pieces). sum_of found xs) (first ∙ ap (λ (xs : Pieces). p ∷ xs) second)) ∙ so

pub loop-by-preserved : goal.loop-by-preserved
loop-by-preserved c =
    one_more c.loop-by.found c.push.new.self c.in-Some-times_of.times _ _ _ _ _ _ c.in-Some.ensures.pieces c.in-Some-next_piece.ensures.pieces c.in-Some-times_of.ensures c.in_ok-push.ensures.ok c.loop-by.invariant
