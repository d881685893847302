-- The atoms of a condition's normal conditions are small.
use Rattle.std.proofs.Common.{◌≡◌, ℕ, ◌+◌, ◌≤◌, ◌^◌, Bool, true, false, not, ◌&&◌, List, [], ◌∷◌, map, refl, sym, ◌∙◌, subst}
use Rattle.std.specs.List.{list_all}
use Rattle.lucy_model.specs.declared.conditions.Condition.{Condition}
use Rattle.lucy_model.specs.declared.conditions.Condition.TheViews.{roll-Condition}
use Rattle.lucy_model.specs.declared.conditions.Condition.TheOpen.{Condition-F}
use Rattle.lucy_model.specs.declared.conditions.Condition.TheFolds.{fold-roll-Condition, ind-Condition, map-Condition}
use Rattle.lucy_model.specs.Conditions.{range_step, is_condition}
use Rattle.lucy_normal.specs.Normals.{Sided, side, normal_step, normal_of, constant}
use Rattle.lucy_normal.specs.Flat.{all_of, any_of}
use Rattle.lucy_normal.specs.Shapes.{each_atom, each_atom_of_all, is_small}
use Rattle.lucy_normal.specs.Laws.{NormalIsSmall}
use Rattle.lucy_normal.proofs.Tests.{two, both}
use Rattle.lucy_normal.proofs.AtomsPass.{each_all, each_any, each_all_of, each_any_of}
use Rattle.lucy_normal.proofs.Sizes.{comparison_small, flag_small}

-- few leaves, whose variables are below n
pub record Few (first leaves n : ℕ) : Type 0 where
  pub few : leaves ≤ 64
  pub room : first + leaves ≤ n
  pub wide : n ≤ 2 ^ 32

-- both sides of a condition have small atoms, where its range test is passed
pub record Small (n : ℕ) (c : Sided) (ok : Bool) : Type 0 where
  pub is : ok ≡ true → (s : Bool) → each_atom (is_small n) (c s) ≡ true

abbrev EachTwo : ℕ → List Sided → List Bool → Type 0
EachTwo n [] [] = Unit {0}
EachTwo n (c ∷ cs) (k ∷ ks) = Small n c k × EachTwo n cs ks
EachTwo n _ _ = ⊥

abbrev all_ok : List Bool → Bool
all_ok ks = list_all (λ (k : Bool). k) ks

sides : (n : ℕ) (s : Bool) (cs : List Sided) (ks : List Bool) → EachTwo n cs ks → all_ok ks ≡ true → each_atom_of_all (is_small n) (side s cs) ≡ true
sides n s [] [] e ok = refl
sides n s [] (k ∷ ks) e ok = absurd e
sides n s (c ∷ cs) [] e ok = absurd e
sides n s (c ∷ cs) (k ∷ ks) e ok =
    let t = two k (all_ok ks) ok in
    both (each_atom (is_small n) (c s)) (each_atom_of_all (is_small n) (side s cs)) (e.0.is t.0 s) (sides n s cs ks e.1 t.1)

constant_small : (n : ℕ) (s : Bool) → each_atom (is_small n) (constant s) ≡ true
constant_small n true = each_all (is_small n) []
constant_small n false = each_any (is_small n) []

by_sign : (n : ℕ) (c : Sided) (ok : Bool) → (ok ≡ true → each_atom (is_small n) (c true) ≡ true) → (ok ≡ true → each_atom (is_small n) (c false) ≡ true) → Small n c ok
by_sign n c ok e f = record { is = is }
  where
    is : ok ≡ true → (s : Bool) → each_atom (is_small n) (c s) ≡ true
    is k true = e k
    is k false = f k

abbrev Part : ℕ → ℕ → ℕ → Type 0
Part first leaves n = (c : Condition) × Small n (normal_of first c) (is_condition leaves 0 c)

abbrev conditions : (first leaves n : ℕ) → List (Part first leaves n) → List Condition
conditions first leaves n ys = map (λ (e : Part first leaves n). e.0) ys

pairs : (first leaves n : ℕ) (ys : List (Part first leaves n)) → EachTwo n (map (normal_of first) (conditions first leaves n ys)) (map (is_condition leaves 0) (conditions first leaves n ys))
pairs first leaves n [] = tt
pairs first leaves n (y ∷ ys) = (y.1, pairs first leaves n ys)

-- the sides and the range tests of a list
abbrev sides_of : (first leaves n : ℕ) → List (Part first leaves n) → List Sided
sides_of first leaves n ys = map (normal_of first) (conditions first leaves n ys)

abbrev tests_of : (first leaves n : ℕ) → List (Part first leaves n) → List Bool
tests_of first leaves n ys = map (is_condition leaves 0) (conditions first leaves n ys)

all_small : (first leaves n : ℕ) (s : Bool) (ys : List (Part first leaves n)) → all_ok (tests_of first leaves n ys) ≡ true → each_atom (is_small n) (all_of (side s (sides_of first leaves n ys))) ≡ true
all_small first leaves n s ys k =
    each_all_of (is_small n) (side s (sides_of first leaves n ys)) ∙ sides n s (sides_of first leaves n ys) (tests_of first leaves n ys) (pairs first leaves n ys) k

any_small : (first leaves n : ℕ) (s : Bool) (ys : List (Part first leaves n)) → all_ok (tests_of first leaves n ys) ≡ true → each_atom (is_small n) (any_of (side s (sides_of first leaves n ys))) ≡ true
any_small first leaves n s ys k =
    each_any_of (is_small n) (side s (sides_of first leaves n ys)) ∙ sides n s (sides_of first leaves n ys) (tests_of first leaves n ys) (pairs first leaves n ys) k

made : (first leaves n : ℕ) → Few first leaves n → (y : Condition-F (Part first leaves n)) →
    Small n (normal_step first (map-Condition Condition Sided (normal_of first) (map-Condition (Part first leaves n) Condition (λ e. e.0) y)))
    (range_step leaves 0 (map-Condition Condition Bool (is_condition leaves 0) (map-Condition (Part first leaves n) Condition (λ e. e.0) y)))
made first leaves n at Condition-F.True = record { is = λ k s. constant_small n s }
made first leaves n at Condition-F.False = record { is = λ k s. constant_small n (not s) }
made first leaves n at (Condition-F.Compare term op) = record { is = λ k s. comparison_small first leaves n term op s (record { few = at.few; room = at.room; wide = at.wide; term = k }) }
made first leaves n at (Condition-F.Is leaf) = record { is = λ k s. flag_small first leaves n leaf s at.room k }
made first leaves n at (Condition-F.Not y) = record { is = λ k s. y.1.is k (not s) }
made first leaves n at (Condition-F.And ys) =
    by_sign n (normal_step first (Condition-F.And (sides_of first leaves n ys))) (range_step leaves 0 (Condition-F.And (tests_of first leaves n ys))) (all_small first leaves n true ys) (any_small first leaves n false ys)
made first leaves n at (Condition-F.Or ys) =
    by_sign n (normal_step first (Condition-F.Or (sides_of first leaves n ys))) (range_step leaves 0 (Condition-F.Or (tests_of first leaves n ys))) (any_small first leaves n true ys) (all_small first leaves n false ys)
made first leaves n at (Condition-F.Implies y z) =
    let c = normal_of first y.0 in
    let d = normal_of first z.0 in
    let ky = is_condition leaves 0 y.0 in
    let kz = is_condition leaves 0 z.0 in
    by_sign n (normal_step first (Condition-F.Implies c d)) (ky && kz)
    (λ k. (each_any_of (is_small n) (c false ∷ d true ∷ []) ∙ both (each_atom (is_small n) (c false)) (each_atom (is_small n) (d true) && true) (y.1.is (two ky kz k).0 false) (both (each_atom (is_small n) (d true)) true (z.1.is (two ky kz k).1 true) refl)))
    (λ k. (each_all_of (is_small n) (c true ∷ d false ∷ []) ∙ both (each_atom (is_small n) (c true)) (each_atom (is_small n) (d false) && true) (y.1.is (two ky kz k).0 true) (both (each_atom (is_small n) (d false)) true (z.1.is (two ky kz k).1 false) refl)))

small : (first leaves n : ℕ) → Few first leaves n → (c : Condition) → Small n (normal_of first c) (is_condition leaves 0 c)
small first leaves n at = ind-Condition (λ (c : Condition). Small n (normal_of first c) (is_condition leaves 0 c)) (λ x y e.
    subst (λ (m : Sided). Small n m (is_condition leaves 0 (roll-Condition x))) (sym (fold-roll-Condition Sided (normal_step first) x))
    (subst (λ (k : Bool). Small n (normal_step first (map-Condition Condition Sided (normal_of first) x)) k) (sym (fold-roll-Condition Bool (range_step leaves 0) x))
    (subst (λ (z : Condition-F Condition). Small n (normal_step first (map-Condition Condition Sided (normal_of first) z)) (range_step leaves 0 (map-Condition Condition Bool (is_condition leaves 0) z))) e
    (made first leaves n at y))))

pub normal_is_small : NormalIsSmall
normal_is_small first leaves n c positive few room wide is = (small first leaves n (record { few = few; room = room; wide = wide }) c).is is positive
