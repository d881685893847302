-- What stands at a place of a list.
use Rattle.std.proofs.Common.{◌≡◌, ◌<◌, ◌≤◌, ℕ, zero, suc, List, [], ◌∷◌, length, map, get_or, Option, Some, None, IfSome, Bor, refl, sym, ap, ◌∙◌, arith}
use Rattle.std.specs.Prelude.{MatchOption, option_map, slice_get}
use Rattle.std.proofs.lemmas.Option.{slice_get-map, slice_get_past}

pub at_place : {A : Type 0} (xs : List A) (k : ℕ) (d : A) → k < length xs → slice_get xs k ≡ Some (get_or xs k d)
at_place [] k d lt = absurd (omega arith)
at_place (x ∷ xs) zero d lt = refl
at_place (x ∷ xs) (suc k) d lt = at_place xs k d (omega arith)

-- what a function makes of what was looked up
pub found_so : {A B : Type 0} (v : A → B) (Q : Bor A → Type 0) (xs : List A) (k : ℕ) (found : Option (Bor A)) → MatchOption found (length xs ≤ k) (λ x. (k < length xs) × Q x)
    → IfSome found (λ x. x.now ≡ get_or xs k x.now) → option_map (λ (x : Bor A). v x.now) found ≡ slice_get (map v xs) k
found_so v Q xs k None past is = sym (slice_get-map v xs k ∙ ap (option_map v) (slice_get_past xs k past))
found_so v Q xs k (Some x) within is = sym (slice_get-map v xs k ∙ ap (option_map v) (at_place xs k x.now within.0 ∙ ap Some (sym is)))
