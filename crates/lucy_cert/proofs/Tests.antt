-- Tests of lists and of pairs.
use Rattle.std.proofs.Common.{◌≡◌, Bool, true, false, ◌&&◌, List, [], ◌∷◌, ◌++◌, refl}
use Rattle.std.specs.List.{list_all}

pub both : (a b : Bool) → a ≡ true → b ≡ true → (a && b) ≡ true
both a b p q = rw (p, q) refl

pub parts_of : (a b : Bool) → (a && b) ≡ true → (a ≡ true) × (b ≡ true)
parts_of true b e = (refl, e)
parts_of false b e = absurd (cc)

pub weaken : {A : Type 0} (p q : A → Bool) → ((x : A) → p x ≡ true → q x ≡ true) → (xs : List A) → list_all p xs ≡ true → list_all q xs ≡ true
weaken p q gives [] e = refl
weaken p q gives (x ∷ xs) e =
    let t = parts_of (p x) (list_all p xs) e in
    both (q x) (list_all q xs) (gives x t.0) (weaken p q gives xs t.1)

pub all_append : {A : Type 0} (p : A → Bool) (xs ys : List A) → list_all p xs ≡ true → list_all p ys ≡ true → list_all p (xs ++ ys) ≡ true
all_append p [] ys e h = h
all_append p (x ∷ xs) ys e h =
    let t = parts_of (p x) (list_all p xs) e in
    both (p x) (list_all p (xs ++ ys)) t.0 (all_append p xs ys t.1 h)
