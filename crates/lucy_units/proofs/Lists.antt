-- Lists, options and choices.
use Rattle.std.proofs.Common.{◌≡◌, Bool, true, false, ◌&&◌, ◌||◌, ℕ, zero, suc, List, [], ◌∷◌, ◌++◌, Option, Some, None, if◌then◌else◌, length, slice_get, refl}
use Rattle.std.specs.List.{list_all}
use Rattle.std.specs.Option.{option_map}

pub both : (b c : Bool) → (b && c) ≡ true → (b ≡ true) × (c ≡ true)
both true c h = (refl, h)
both false c h = absurd (cc)

pub chosen : {A : Type 0} (b : Bool) (x y : A) → b ≡ true → (if b then x else y) ≡ x
chosen true x y h = refl
chosen false x y h = absurd (cc)

pub other_chosen : {A : Type 0} (b : Bool) (x y : A) → b ≡ false → (if b then x else y) ≡ y
other_chosen true x y h = absurd (cc)
other_chosen false x y h = refl

pub or_later : (b c : Bool) → c ≡ true → (b || c) ≡ true
or_later true c e = refl
or_later false c e = e

pub or_first : (b c : Bool) → b ≡ true → (b || c) ≡ true
or_first true c e = refl
or_first false c e = absurd (cc)

pub all_push : {A : Type 0} (p : A → Bool) (xs : List A) (x : A) → list_all p xs ≡ true → p x ≡ true → list_all p (xs ++ x ∷ []) ≡ true
all_push p [] x all h = rw h refl
all_push p (y ∷ xs) x all h = by_test (p y) all (all_push p xs x)
  where
    by_test : (b : Bool) → (b && list_all p xs) ≡ true → (list_all p xs ≡ true → p x ≡ true → list_all p (xs ++ x ∷ []) ≡ true) → (b && list_all p (xs ++ x ∷ [])) ≡ true
    by_test true all next = next all h
    by_test false all next = absurd (cc)

pub slice_get-front : {A : Type 0} (xs ys : List A) (n : ℕ) (x : A) → slice_get xs n ≡ Some x → slice_get (xs ++ ys) n ≡ Some x
slice_get-front [] ys n x h = absurd (cc)
slice_get-front (y ∷ xs) ys zero x h = h
slice_get-front (y ∷ xs) ys (suc n) x h = slice_get-front xs ys n x h

pub slice_get-end : {A : Type 0} (xs : List A) (x : A) → slice_get (xs ++ x ∷ []) (length xs) ≡ Some x
slice_get-end [] x = refl
slice_get-end (y ∷ xs) x = slice_get-end xs x

pub made_from : {A B : Type 0} (f : A → B) (o : Option A) (y : B) → option_map f o ≡ Some y → (x : A) × (o ≡ Some x) × (f x ≡ y)
made_from f None y h = absurd (cc)
made_from f (Some x) y h = (x, refl, cc)
