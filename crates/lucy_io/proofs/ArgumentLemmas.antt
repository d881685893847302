-- Arguments, as an iterator gives them.
use Rattle.std.proofs.Common.{◌≡◌, ℕ, ◌+◌, List, ◌∷◌, length, drop, Option, None, Some, MatchOption, sym, ap, ◌∙◌}
use Rattle.std.proofs.lemmas.List.{nil_from_length}

-- what is left behind the first
pub behind_first : {A : Type 0} (first : Option A) (all rest : List A) (before after : ℕ) → MatchOption first ((before ≡ 0) × (after ≡ 0)) (λ x. (all ≡ x ∷ rest) × (after + 1 ≡ before)) → length all ≡ before → length rest ≡ after → rest ≡ drop 1 all
behind_first None all rest before after step size left = nil_from_length rest (left ∙ step.1) ∙ sym (ap (drop 1) (nil_from_length all (size ∙ step.0)))
behind_first (Some x) all rest before after step size left = sym (ap (drop 1) step.0)
