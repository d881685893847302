-- One step over a list of which each element is tested.
use Rattle.std.proofs.Common.{◌≡◌, ℕ, ◌+◌, ◌<◌, ◌≤◌, Bool, true, false, not, ◌&&◌, ◌||◌, IsTrue, List, [], ◌∷◌, length, map, get_or, drop, refl, ap, sym, ◌∙◌}
use Rattle.std.specs.List.{list_all, list_any}
use Rattle.std.proofs.lemmas.Bool.{and_parts}
use mathlib.Core.Bool.{beq}
use Rattle.lucy_model.specs.Asked.{is_so}
use Rattle.std.proofs.lemmas.List.{drop_all, drop_more}

rest_at : {X : Type 0} (xs : List X) (i : ℕ) (x : X) → i < length xs → x ≡ get_or xs i x → drop i xs ≡ x ∷ drop (i + 1) xs
rest_at xs i x below is = drop_more xs i x below ∙ ap (λ y. y ∷ drop (i + 1) xs) (sym is)

-- all that is left passes, if the element here and the rest do
all_here : {X Y : Type 0} (test : Y → Bool) (f : X → Y) (xs : List X) (i : ℕ) (x : X) (b : Bool) → i < length xs → x ≡ get_or xs i x → test (f x) ≡ b
    → list_all test (map f (drop i xs)) ≡ (b && list_all test (map f (drop (i + 1) xs)))
all_here test f xs i x b below is here = ap (λ rest. list_all test (map f rest)) (rest_at xs i x below is) ∙ ap (λ t. t && list_all test (map f (drop (i + 1) xs))) here

-- some of what is left passes, if the element here or some of the rest does
pub any_here : {X Y : Type 0} (test : Y → Bool) (f : X → Y) (xs : List X) (i : ℕ) (x : X) (b : Bool) → i < length xs → x ≡ get_or xs i x → test (f x) ≡ b
    → list_any test (map f (drop i xs)) ≡ (b || list_any test (map f (drop (i + 1) xs)))
any_here test f xs i x b below is here = ap (λ rest. list_any test (map f rest)) (rest_at xs i x below is) ∙ ap (λ t. t || list_any test (map f (drop (i + 1) xs))) here

-- where all that is left passes, all that is left after the next passes
pub all_later : {X Y : Type 0} (test : Y → Bool) (f : X → Y) (xs : List X) (i : ℕ) (x : X) → i < length xs → x ≡ get_or xs i x → list_all test (map f (drop i xs)) ≡ true → list_all test (map f (drop (i + 1) xs)) ≡ true
all_later test f xs i x below is h = (and_parts (test (f x)) (list_all test (map f (drop (i + 1) xs))) (sym (all_here test f xs i x (test (f x)) below is refl) ∙ h)).1

-- after the last place
pub any_end : {X Y : Type 0} (test : Y → Bool) (f : X → Y) (xs : List X) (i : ℕ) → length xs ≤ i → list_any test (map f (drop i xs)) ≡ false
any_end test f xs i done = ap (λ rest. list_any test (map f rest)) (drop_all i xs done)

-- what a test gives decides what it is equal to
pub decides : (result b : Bool) → b ≡ result → (IsTrue result → IsTrue b) × (IsTrue b → IsTrue result)
decides result b e = (λ h. e ∙ h, λ h. sym e ∙ h)

-- two tests that imply one another are the same
same : (result b : Bool) → (IsTrue result → IsTrue b) × (IsTrue b → IsTrue result) → result ≡ b
same true b e = sym (e.0 refl)
same false true e = e.1 refl
same false false e = refl

-- whether a part is as is asked
pub asked : (result b holding answer : Bool) → (IsTrue result → IsTrue b) × (IsTrue b → IsTrue result) → beq result holding ≡ answer → is_so holding b ≡ answer
asked result b holding answer e is = by holding b (ap (λ r. beq r holding) (sym (same result b e)) ∙ is)
  where
    by : (holding b : Bool) → beq b holding ≡ answer → is_so holding b ≡ answer
    by true true e = e
    by true false e = e
    by false true e = e
    by false false e = e

-- all pass, unless some do not
pub all_unless : {X : Type 0} (test : X → Bool) (xs : List X) → list_all test xs ≡ not (list_any (λ x. is_so false (test x)) xs)
all_unless test [] = refl
all_unless test (x ∷ xs) = by (test x) (all_unless test xs)
  where
    by : (b : Bool) → list_all test xs ≡ not (list_any (λ x. is_so false (test x)) xs) → (b && list_all test xs) ≡ not (not b || list_any (λ x. is_so false (test x)) xs)
    by true e = e
    by false e = refl
