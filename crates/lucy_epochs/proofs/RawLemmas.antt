-- The numbers of a state, copied one by one.
use Rattle.std.proofs.Common.{◌≡◌, ◌<◌, ◌++◌, ◌+◌, ℕ, ℤ, pos, List, [], ◌∷◌, length, get_or, set, take, ap, sym, ◌∙◌, arith}
use mir.Syntax.{w64, w128}
use mir.Val.{SFits, to_z, of_z}
use Rattle.std.proofs.lemmas.Int.{to_z-of_z}
use Rattle.std.proofs.lemmas.List.{length-set, take_more, take_more_set}

-- one number more, of 64 bits, widened
pub one_more : (raw after state : List ℤ) (i : ℕ) (got wide : ℤ) → SFits w64 got → SFits w128 wide → wide ≡ to_z w64 (of_z w64 got) → got ≡ get_or state i (pos 0) → i < length raw
    → (length raw ≡ length state) × (take i raw ≡ take i state) → after ≡ set raw i (to_z w128 (of_z w128 wide))
    → (length after ≡ length state) × (take (i + 1) after ≡ take (i + 1) state)
one_more raw after state i got wide fits wide_fits is_wide is below so is_after =
    let x = to_z w128 (of_z w128 wide) in
    let back : x ≡ get_or state i (pos 0) = to_z-of_z w128 wide wide_fits ∙ is_wide ∙ to_z-of_z w64 got fits ∙ is in
    let here : i < length state = omega (arith, below, so.0) in (
      ap length is_after ∙ length-set raw i x ∙ so.0,
      ap (take (i + 1)) is_after ∙ take_more_set raw i x below ∙ ap (λ (front : List ℤ). front ++ x ∷ []) so.1 ∙ ap (λ (y : ℤ). take i state ++ y ∷ []) back ∙ sym (take_more state i (pos 0) here),
    )
