-- Found elements of lists.
use Rattle.std.proofs.Common.{◌≡◌, ℕ, zero, suc, ◌+◌, ◌<◌, Bool, true, List, [], ◌∷◌, length, drop, get_or, Some, slice_get, ap, sym, ◌∙◌}
use Rattle.std.specs.List.{list_all}
use Rattle.std.proofs.lemmas.Bool.{and_parts}
use Rattle.std.proofs.lemmas.List.{drop_more}

-- what all elements pass, an element at a place passes
pub found_passes : {X : Type 0} (test : X → Bool) (xs : List X) (i : ℕ) (x : X) → slice_get xs i ≡ Some x → list_all test xs ≡ true → test x ≡ true
found_passes test [] i x at h = absurd (cc)
found_passes test (y ∷ xs) zero x at h =
    let same : y ≡ x = cc in
    sym (ap test same) ∙ (and_parts (test y) (list_all test xs) h).0
found_passes test (y ∷ xs) (suc i) x at h = found_passes test xs i x at (and_parts (test y) (list_all test xs) h).1

-- what is left after an element
pub rest_at : {X : Type 0} (xs : List X) (i : ℕ) (x : X) → i < length xs → x ≡ get_or xs i x → drop i xs ≡ x ∷ drop (i + 1) xs
rest_at xs i x below at = drop_more xs i x below ∙ ap (λ y. y ∷ drop (i + 1) xs) (sym at)

-- what all that is left passes, all that is left after the next passes
pub rest_passes : {X : Type 0} (test : X → Bool) (xs : List X) (i : ℕ) (x : X) → i < length xs → x ≡ get_or xs i x → list_all test (drop i xs) ≡ true → list_all test (drop (i + 1) xs) ≡ true
rest_passes test xs i x below at h = (and_parts (test x) (list_all test (drop (i + 1) xs)) (sym (ap (list_all test) (rest_at xs i x below at)) ∙ h)).1
