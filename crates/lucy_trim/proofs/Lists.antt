-- What holds of each number of a list, numbers that rise, and tests.
use Rattle.std.proofs.Common.{◌≡◌, ℕ, ◌<◌, ◌==◌, Bool, true, false, ◌&&◌, ◌||◌, List, [], ◌∷◌, ◌++◌, if◌then◌else◌, refl, sym, ap, ◌∙◌, subst, arith}
use Rattle.std.specs.List.{filter}
use Rattle.std.proofs.lemmas.Bool.Decides.{nat_tests}
use Rattle.std.proofs.lemmas.Bool.{eqb-true, lt-ltb, false_from_ne_true}
use Rattle.lucy_cert.specs.Numbers.{contains, ascend_from, are_droppable}

-- ---- tests

pub or_group : (a b c : Bool) → (a || (b || c)) ≡ ((a || b) || c)
or_group true b c = refl
or_group false b c = refl

pub or_no : (b : Bool) → (b || false) ≡ b
or_no true = refl
or_no false = refl

pub or_yes : (b : Bool) → (b || true) ≡ true
or_yes true = refl
or_yes false = refl

pub same_number : (n : ℕ) → (n == n) ≡ true
same_number n = grind (arith, nat_tests)

-- ---- each number

abbrev pub Each : (ℕ → Type 0) → List ℕ → Type 0
Each P [] = Unit {0}
Each P (x ∷ xs) = P x × Each P xs

pub each_turned : (P Q : ℕ → Type 0) → ((n : ℕ) → P n → Q n) → (ns : List ℕ) → Each P ns → Each Q ns
each_turned P Q turn [] all = tt
each_turned P Q turn (n ∷ ns) all = (turn n all.0, each_turned P Q turn ns all.1)

pub Each-append : (P : ℕ → Type 0) (xs ys : List ℕ) → Each P xs → Each P ys → Each P (xs ++ ys)
Each-append P [] ys left right = right
Each-append P (x ∷ xs) ys left right = (left.0, Each-append P xs ys left.1 right)

-- what passes a test
pub each_passed : (P Q : ℕ → Type 0) (test : ℕ → Bool) → ((n : ℕ) → P n → test n ≡ true → Q n) → (ns : List ℕ) → Each P ns → Each Q (filter test ns)
each_passed P Q test turn [] all = tt
each_passed P Q test turn (n ∷ ns) all = by_test (test n) refl (each_passed P Q test turn ns all.1)
  where
    by_test : (b : Bool) → test n ≡ b → Each Q (filter test ns) → Each Q (if b then (n ∷ filter test ns) else filter test ns)
    by_test true h later = (turn n all.0 h, later)
    by_test false h later = later

pub each_filtered : (P : ℕ → Type 0) (test : ℕ → Bool) (ns : List ℕ) → Each P ns → Each P (filter test ns)
each_filtered P test ns all = each_passed P P test (λ n p h. p) ns all

pub each_passes : (test : ℕ → Bool) (ns : List ℕ) → Each (λ n. test n ≡ true) (filter test ns)
each_passes test ns = each_passed (λ n. Unit {0}) (λ n. test n ≡ true) test (λ n p h. h) ns (all_units ns)
  where
    all_units : (ns : List ℕ) → Each (λ n. Unit {0}) ns
    all_units [] = tt
    all_units (n ∷ ns) = (tt, all_units ns)

-- two tests that agree at each number keep the same numbers
pub same_kept : (P : ℕ → Type 0) (test other : ℕ → Bool) → ((n : ℕ) → P n → test n ≡ other n) → (ns : List ℕ) → Each P ns → filter test ns ≡ filter other ns
same_kept P test other same [] all = refl
same_kept P test other same (n ∷ ns) all =
    ap (λ (b : Bool). if b then (n ∷ filter test ns) else filter test ns) (same n all.0)
    ∙ ap (λ (ms : List ℕ). if other n then (n ∷ ms) else ms) (same_kept P test other same ns all.1)

-- ---- numbers that a list contains

pub contains-append : (n : ℕ) (xs ys : List ℕ) → contains n (xs ++ ys) ≡ (contains n xs || contains n ys)
contains-append n [] ys = refl
contains-append n (x ∷ xs) ys = ap (λ (b : Bool). (n == x) || b) (contains-append n xs ys) ∙ or_group (n == x) (contains n xs) (contains n ys)

pub each_contained : (P : ℕ → Type 0) (n : ℕ) (ns : List ℕ) → Each P ns → contains n ns ≡ true → P n
each_contained P n [] all h = absurd (cc)
each_contained P n (m ∷ ms) all h = by_test (each_contained P n ms all.1) (n == m) refl h
  where
    by_test : (contains n ms ≡ true → P n) → (b : Bool) → (n == m) ≡ b → (b || contains n ms) ≡ true → P n
    by_test later true e h = subst P (sym (eqb-true n m e)) all.0
    by_test later false e h = later h

pub not_contained : (P : ℕ → Type 0) (n : ℕ) (ns : List ℕ) → Each P ns → (P n → ⊥) → contains n ns ≡ false
not_contained P n ns all never = false_from_ne_true (contains n ns) (λ h. never (each_contained P n ns all h))

-- ---- numbers that rise

abbrev pub Rise : List ℕ → Type 0
Rise [] = Unit {0}
Rise (n ∷ ns) = Each (λ m. n < m) ns × Rise ns

pub Rise-push : (ns : List ℕ) (x : ℕ) → Rise ns → Each (λ n. n < x) ns → Rise (ns ++ x ∷ [])
Rise-push [] x rise below = (tt, tt)
Rise-push (n ∷ ns) x rise below = (Each-append (λ m. n < m) ns (x ∷ []) rise.0 (below.0, tt), Rise-push ns x rise.1 below.1)

pub rise_filtered : (test : ℕ → Bool) (ns : List ℕ) → Rise ns → Rise (filter test ns)
rise_filtered test [] rise = tt
rise_filtered test (n ∷ ns) rise = by_test (test n) (rise_filtered test ns rise.1)
  where
    by_test : (b : Bool) → Rise (filter test ns) → Rise (if b then (n ∷ filter test ns) else filter test ns)
    by_test true later = (each_filtered (λ m. n < m) test ns rise.0, later)
    by_test false later = later

pub rise_ascends : (n : ℕ) (ns : List ℕ) → Rise (n ∷ ns) → ascend_from n ns ≡ true
rise_ascends n [] rise = refl
rise_ascends n (m ∷ ms) rise = ap (λ (b : Bool). b && ascend_from m ms) (lt-ltb n m rise.0.0) ∙ rise_ascends m ms rise.1

pub rise_droppable : (n : ℕ) (ns : List ℕ) → Rise (n ∷ ns) → are_droppable (n ∷ ns) ≡ true
rise_droppable n ns rise = rise_ascends n ns rise
