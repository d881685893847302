-- Tests that each atom of the formulas' parts passes.
use Rattle.std.proofs.Common.{◌≡◌, ℕ, ◌+◌, ◌<◌, ◌≤◌, ◌^◌, ◌==◌, nat_lt, Bool, true, false, ◌&&◌, ℤ, pos, neg_ℤ, ◌-ℤ◌, ◌+ℤ◌, unsigned_abs, List, [], ◌∷◌, ◌++◌, map, length, refl, ap, ◌∙◌, arith, append_assoc}
use Rattle.std.specs.List.{list_all}
use Rattle.std.proofs.lemmas.Int.{ints}
use Rattle.std.proofs.lemmas.Bool.Decides.{nat_tests}
use Rattle.std.proofs.lemmas.List.Folds.{list_all-append}
use Rattle.lucy_clauses.specs.Sums.{Form}
use Rattle.lucy_model.specs.declared.leaves.Kind.{Kind}
use Rattle.lucy_model.specs.declared.leaves.Kind.TheVariants.{Max, Min}
use Rattle.lucy_model.specs.declared.leaves.Leaf.{Leaf}
use Rattle.lucy_model.specs.declared.conditions.Condition.{Condition}
use Rattle.lucy_model.specs.Conditions.{is_condition}
use Rattle.lucy_plan.specs.declared.parts.Segment.{Segment}
use Rattle.lucy_normal.specs.declared.normals.Normal.{Normal}
use Rattle.lucy_normal.specs.declared.normals.Normal.TheVariants.{Atom as Lone}
use Rattle.lucy_clauses.specs.Bounds.{at_most, at_least}
use Rattle.lucy_normal.specs.Linear.{at_most_other, at_least_other}
use Rattle.lucy_normal.specs.Normals.{normal_of}
use Rattle.lucy_normal.specs.Shapes.{each_atom, each_atom_of_all, is_over, is_small}
use Rattle.lucy_normal.proofs.Tests.{two, both}
use Rattle.lucy_normal.proofs.AtomsPass.{each_all, each_any, each_lone, each_any_of}
use Rattle.lucy_normal.proofs.Sizes.{small_test}
use Rattle.lucy_normal.proofs.SmallAtoms.{normal_is_small}
use Rattle.lucy_normal.proofs.Keeping.{normals_weaker}
use Rattle.lucy_normal.proofs.Narrowness.{small_over}
use Rattle.lucy_closure.specs.Points.{on_leaves, off_leaves, at_point, off_point, are_points}
use Rattle.lucy_closure.specs.Merges.{either, merged_leaf, merged_leaves}
use Rattle.lucy_closure.specs.Formulas.{inside, left_out, any_left_out, outside, pair_parts, uncovered}

-- a test that atoms over variables below n pass, where the numbers of points are as they have to be
pub record Passes (test : Form → Bool) (n : ℕ) (ok : ℤ → Type 0) : Type 0 where
  pub normal : (v leaves : ℕ) (c : Condition) (s : Bool) → leaves ≤ 64 → v + leaves ≤ n → is_condition leaves 0 c ≡ true → each_atom test (normal_of v c s) ≡ true
  pub most : (v : ℕ) (p : ℤ) → v < n → ok p → test (at_most v p) ≡ true
  pub least : (v : ℕ) (p : ℤ) → v < n → ok p → test (at_least v p) ≡ true
  pub below : (v : ℕ) (p : ℤ) → v < n → ok p → test (at_most v (p -ℤ pos 1)) ≡ true
  pub above : (v : ℕ) (p : ℤ) → v < n → ok p → test (at_least v (p +ℤ pos 1)) ≡ true
  pub most_other : (v w : ℕ) → v < n → w < n → test (at_most_other v w) ≡ true
  pub least_other : (v w : ℕ) → v < n → w < n → test (at_least_other v w) ≡ true

abbrev pub EachNumber : (ℤ → Type 0) → List ℤ → Type 0
EachNumber ok [] = Unit {0}
EachNumber ok (x ∷ xs) = ok x × EachNumber ok xs

abbrev pub EachPoint : (ℤ → Type 0) → List (List ℤ) → Type 0
EachPoint ok [] = Unit {0}
EachPoint ok (p ∷ ps) = EachNumber ok p × EachPoint ok ps

two_pass : (test : Form → Bool) (t u : Form) (rest : List Normal) → test t ≡ true → test u ≡ true → each_atom_of_all test rest ≡ true → each_atom_of_all test (Lone t ∷ Lone u ∷ rest) ≡ true
two_pass test t u rest h k l =
    both (each_atom test (Lone t)) (each_atom test (Lone u) && each_atom_of_all test rest) (each_lone test t ∙ h)
    (both (each_atom test (Lone u)) (each_atom_of_all test rest) (each_lone test u ∙ k) l)

on_leaves_pass : (test : Form → Bool) (n : ℕ) (ok : ℤ → Type 0) → Passes test n ok → (v : ℕ) (ps : List ℤ) → v + length ps ≤ n → EachNumber ok ps → each_atom_of_all test (on_leaves v ps) ≡ true
on_leaves_pass test n ok t v [] h k = refl
on_leaves_pass test n ok t v (p ∷ ps) h k =
    two_pass test (at_most v p) (at_least v p) (on_leaves (v + 1) ps) (t.most v p (omega (arith, h)) k.0) (t.least v p (omega (arith, h)) k.0) (on_leaves_pass test n ok t (v + 1) ps (omega (arith, h)) k.1)

off_leaves_pass : (test : Form → Bool) (n : ℕ) (ok : ℤ → Type 0) → Passes test n ok → (v : ℕ) (ps : List ℤ) → v + length ps ≤ n → EachNumber ok ps → each_atom_of_all test (off_leaves v ps) ≡ true
off_leaves_pass test n ok t v [] h k = refl
off_leaves_pass test n ok t v (p ∷ ps) h k =
    two_pass test (at_most v (p -ℤ pos 1)) (at_least v (p +ℤ pos 1)) (off_leaves (v + 1) ps) (t.below v p (omega (arith, h)) k.0) (t.above v p (omega (arith, h)) k.0) (off_leaves_pass test n ok t (v + 1) ps (omega (arith, h)) k.1)

room : (v m leaves n : ℕ) → (m == leaves) ≡ true → v + leaves ≤ n → v + m ≤ n
room v m leaves n h k = grind (arith, nat_tests, h, k)

-- points over so many leaves, whose numbers are as they have to be
pub record Points (ok : ℤ → Type 0) (leaves v n : ℕ) (points : List (List ℤ)) : Type 0 where
  pub fit : v + leaves ≤ n
  pub are : are_points leaves points ≡ true
  pub numbers : EachPoint ok points

-- what is made of each point passes, where it does of a point with as many numbers as there are leaves
points_pass : (test : Form → Bool) (n : ℕ) (ok : ℤ → Type 0) (make : List ℤ → Normal) (leaves v : ℕ) →
    ((p : List ℤ) → v + length p ≤ n → EachNumber ok p → each_atom test (make p) ≡ true) → (points : List (List ℤ)) → Points ok leaves v n points → each_atom_of_all test (map make points) ≡ true
points_pass test n ok make leaves v pass [] h = refl
points_pass test n ok make leaves v pass (p ∷ points) h =
    let u = two (length p == leaves) (are_points leaves points) h.are in
    both (each_atom test (make p)) (each_atom_of_all test (map make points)) (pass p (room v (length p) leaves n u.0 h.fit) h.numbers.0)
    (points_pass test n ok make leaves v pass points (record { fit = h.fit; are = u.1; numbers = h.numbers.1 }))

at_points_pass : (test : Form → Bool) (n : ℕ) (ok : ℤ → Type 0) → Passes test n ok → (leaves v : ℕ) (points : List (List ℤ)) → Points ok leaves v n points → each_atom_of_all test (map (at_point v) points) ≡ true
at_points_pass test n ok t leaves v = points_pass test n ok (at_point v) leaves v (λ p h k. each_all test (on_leaves v p) ∙ on_leaves_pass test n ok t v p h k)

off_points_pass : (test : Form → Bool) (n : ℕ) (ok : ℤ → Type 0) → Passes test n ok → (leaves v : ℕ) (points : List (List ℤ)) → Points ok leaves v n points → each_atom_of_all test (map (off_point v) points) ≡ true
off_points_pass test n ok t leaves v = points_pass test n ok (off_point v) leaves v (λ p h k. each_any test (off_leaves v p) ∙ off_leaves_pass test n ok t v p h k)

-- the conditions and the points of a segment, or of the invariant alone
pub record Given (ok : ℤ → Type 0) (leaves : ℕ) (invariant condition : Condition) (points : List (List ℤ)) : Type 0 where
  pub few : leaves ≤ 64
  pub invariant_is : is_condition leaves 0 invariant ≡ true
  pub condition_is : is_condition leaves 0 condition ≡ true
  pub points_are : are_points leaves points ≡ true
  pub numbers : EachPoint ok points

pub inside_passes : (test : Form → Bool) (n : ℕ) (ok : ℤ → Type 0) → Passes test n ok → (leaves v : ℕ) (i c : Condition) (points : List (List ℤ)) → Given ok leaves i c points → v + leaves ≤ n → each_atom_of_all test (inside v i c points) ≡ true
inside_passes test n ok t leaves v i c points g k =
    both (each_atom test (normal_of v i true)) (each_atom test (normal_of v c true) && each_atom_of_all test (map (off_point v) points)) (t.normal v leaves i true g.few k g.invariant_is)
    (both (each_atom test (normal_of v c true)) (each_atom_of_all test (map (off_point v) points)) (t.normal v leaves c true g.few k g.condition_is)
    (off_points_pass test n ok t leaves v points (record { fit = k; are = g.points_are; numbers = g.numbers })))

left_out_passes : (test : Form → Bool) (n : ℕ) (ok : ℤ → Type 0) → Passes test n ok → (leaves v : ℕ) (i c : Condition) (points : List (List ℤ)) → Given ok leaves i c points → v + leaves ≤ n → each_atom_of_all test (left_out v c points) ≡ true
left_out_passes test n ok t leaves v i c points g k =
    both (each_atom test (normal_of v c false)) (each_atom_of_all test (map (at_point v) points)) (t.normal v leaves c false g.few k g.condition_is)
    (at_points_pass test n ok t leaves v points (record { fit = k; are = g.points_are; numbers = g.numbers }))

pub any_left_out_passes : (test : Form → Bool) (n : ℕ) (ok : ℤ → Type 0) → Passes test n ok → (leaves v : ℕ) (i c : Condition) (points : List (List ℤ)) → Given ok leaves i c points → v + leaves ≤ n → each_atom test (any_left_out v c points) ≡ true
any_left_out_passes test n ok t leaves v i c points g k = each_any_of test (left_out v c points) ∙ left_out_passes test n ok t leaves v i c points g k

-- of several segments, each of which passes two tests that give this of it
pub uncovered_pass : (test : Form → Bool) (n : ℕ) (ok : ℤ → Type 0) → Passes test n ok → (leaves : ℕ) (i : Condition) → leaves ≤ n → (good fine : Segment → Bool) →
    ((s : Segment) → good s ≡ true → fine s ≡ true → Given ok leaves i s.condition s.excepts) → (ss : List Segment) → list_all good ss ≡ true → list_all fine ss ≡ true → each_atom_of_all test (map uncovered ss) ≡ true
uncovered_pass test n ok t leaves i fit good fine given [] h k = refl
uncovered_pass test n ok t leaves i fit good fine given (s ∷ ss) h k =
    let u = two (good s) (list_all good ss) h in
    let v = two (fine s) (list_all fine ss) k in
    both (each_atom test (uncovered s)) (each_atom_of_all test (map uncovered ss))
    (any_left_out_passes test n ok t leaves 0 i s.condition s.excepts (given s u.0 v.0) (omega (arith, fit)))
    (uncovered_pass test n ok t leaves i fit good fine given ss u.1 v.1)

pub outside_passes : (test : Form → Bool) (n : ℕ) (ok : ℤ → Type 0) → Passes test n ok → (leaves v : ℕ) (i c : Condition) (points : List (List ℤ)) → Given ok leaves i c points → v + leaves ≤ n → each_atom test (outside v i c points) ≡ true
outside_passes test n ok t leaves v i c points g k =
    each_any_of test (normal_of v i false ∷ left_out v c points)
    ∙ both (each_atom test (normal_of v i false)) (each_atom_of_all test (left_out v c points)) (t.normal v leaves i false g.few k g.invariant_is) (left_out_passes test n ok t leaves v i c points g k)

either_passes : (test : Form → Bool) (t u : Form) → test t ≡ true → test u ≡ true → each_atom test (either t u) ≡ true
either_passes test t u h k = each_any test (Lone t ∷ Lone u ∷ []) ∙ two_pass test t u [] h k refl

leaf_passes : (test : Form → Bool) (n : ℕ) (ok : ℤ → Type 0) → Passes test n ok → (kind : Kind) (v w u : ℕ) → v < n → w < n → u < n → each_atom_of_all test (merged_leaf kind v w u) ≡ true
leaf_passes test n ok t Max v w u a b c =
    two_pass test (at_most_other v u) (at_most_other w u) (either (at_least_other v u) (at_least_other w u) ∷ []) (t.most_other v u a c) (t.most_other w u b c)
    (both (each_atom test (either (at_least_other v u) (at_least_other w u))) true (either_passes test (at_least_other v u) (at_least_other w u) (t.least_other v u a c) (t.least_other w u b c)) refl)
leaf_passes test n ok t Min v w u a b c =
    two_pass test (at_least_other v u) (at_least_other w u) (either (at_most_other v u) (at_most_other w u) ∷ []) (t.least_other v u a c) (t.least_other w u b c)
    (both (each_atom test (either (at_most_other v u) (at_most_other w u))) true (either_passes test (at_most_other v u) (at_most_other w u) (t.most_other v u a c) (t.most_other w u b c)) refl)

merges_pass : (test : Form → Bool) (n : ℕ) (ok : ℤ → Type 0) → Passes test n ok → (m i : ℕ) (object : List Leaf) → m + (m + (i + length object)) ≤ n → each_atom_of_all test (merged_leaves m i object) ≡ true
merges_pass test n ok t m i [] h = refl
merges_pass test n ok t m i (leaf ∷ object) h =
    list_all-append (each_atom test) (merged_leaf leaf.kind i (m + i) (m + (m + i))) (merged_leaves m (i + 1) object)
    ∙ both (each_atom_of_all test (merged_leaf leaf.kind i (m + i) (m + (m + i)))) (each_atom_of_all test (merged_leaves m (i + 1) object))
    (leaf_passes test n ok t leaf.kind i (m + i) (m + (m + i)) (omega (arith, h)) (omega (arith, h)) (omega (arith, h)))
    (merges_pass test n ok t m (i + 1) object (omega (arith, h)))

pub regroup : {X : Type 0} (a b c d : List X) → ((a ++ b) ++ c) ++ d ≡ a ++ (b ++ (c ++ d))
regroup a b c d = append_assoc (a ++ b) c d ∙ append_assoc a b (c ++ d)

pub pair_passes : (test : Form → Bool) (n : ℕ) (ok : ℤ → Type 0) → Passes test n ok → (object : List Leaf) (i c : Condition) (points : List (List ℤ)) (last : Normal) → Given ok (length object) i c points →
    length object + (length object + length object) ≤ n → each_atom test last ≡ true → each_atom_of_all test (pair_parts object i c points last) ≡ true
pair_passes test n ok t object i c points last g k h =
    let l = length object in
    let first = inside 0 i c points in
    let second = inside l i c points in
    let merges = merged_leaves l 0 object in
    ap (each_atom_of_all test) (regroup first second merges (last ∷ []))
    ∙ list_all-append (each_atom test) first (second ++ (merges ++ last ∷ []))
    ∙ both (each_atom_of_all test first) (each_atom_of_all test (second ++ (merges ++ last ∷ []))) (inside_passes test n ok t l 0 i c points g (omega (arith, k)))
    (list_all-append (each_atom test) second (merges ++ last ∷ [])
    ∙ both (each_atom_of_all test second) (each_atom_of_all test (merges ++ last ∷ [])) (inside_passes test n ok t l l i c points g (omega (arith, k)))
    (list_all-append (each_atom test) merges (last ∷ [])
    ∙ both (each_atom_of_all test merges) (each_atom test last && true) (merges_pass test n ok t l 0 object (omega (arith, k))) (both (each_atom test last) true h refl)))

-- ---- two such tests

less_test : (v n : ℕ) → v < n → nat_lt v n ≡ true
less_test v n h = grind (arith, nat_tests, h)

abbrev pub Any_number : ℤ → Type 0
Any_number p = Unit {0}

abbrev pub IsSmallNumber : ℤ → Type 0
IsSmallNumber p = unsigned_abs p ≤ 2 ^ 63

pub over_passes : (n : ℕ) → n ≤ 2 ^ 32 → Passes (is_over n) n Any_number
over_passes n wide = record {
  normal = λ v leaves c s few k h. (two (each_atom (is_over n) (normal_of v c s)) true
      (normals_weaker (is_small n) (is_over n) (small_over n) (normal_of v c s ∷ []) (both (each_atom (is_small n) (normal_of v c s)) true (normal_is_small v leaves n c s few k wide h) refl))).0;
  most = λ v p h k. both (nat_lt v n) true (less_test v n h) refl;
  least = λ v p h k. both (nat_lt v n) true (less_test v n h) refl;
  below = λ v p h k. both (nat_lt v n) true (less_test v n h) refl;
  above = λ v p h k. both (nat_lt v n) true (less_test v n h) refl;
  most_other = λ v w h k. both (nat_lt v n) (nat_lt w n && true) (less_test v n h) (both (nat_lt w n) true (less_test w n k) refl);
  least_other = λ v w h k. both (nat_lt v n) (nat_lt w n && true) (less_test v n h) (both (nat_lt w n) true (less_test w n k) refl);
}

neg_size : (p : ℤ) → unsigned_abs p ≤ 2 ^ 63 → unsigned_abs (neg_ℤ p) ≤ 2 ^ 64
neg_size p h = grind (arith, ints, h)

below_size : (p : ℤ) → unsigned_abs p ≤ 2 ^ 63 → unsigned_abs (p -ℤ pos 1) ≤ 2 ^ 64
below_size p h = grind (arith, ints, h)

above_size : (p : ℤ) → unsigned_abs p ≤ 2 ^ 63 → unsigned_abs (neg_ℤ (p +ℤ pos 1)) ≤ 2 ^ 64
above_size p h = grind (arith, ints, h)

pub small_passes : (n : ℕ) → n ≤ 2 ^ 32 → Passes (is_small n) n IsSmallNumber
small_passes n wide = record {
  normal = λ v leaves c s few k h. normal_is_small v leaves n c s few k wide h;
  most = λ v p h k. small_test n (unsigned_abs p) 1 (is_over n (at_most v p)) (both (nat_lt v n) true (less_test v n h) refl) (omega (arith, k)) (omega arith);
  least = λ v p h k. small_test n (unsigned_abs (neg_ℤ p)) 1 (is_over n (at_least v p)) (both (nat_lt v n) true (less_test v n h) refl) (neg_size p k) (omega arith);
  below = λ v p h k. small_test n (unsigned_abs (p -ℤ pos 1)) 1 (is_over n (at_most v (p -ℤ pos 1))) (both (nat_lt v n) true (less_test v n h) refl) (below_size p k) (omega arith);
  above = λ v p h k. small_test n (unsigned_abs (neg_ℤ (p +ℤ pos 1))) 1 (is_over n (at_least v (p +ℤ pos 1))) (both (nat_lt v n) true (less_test v n h) refl) (above_size p k) (omega arith);
  most_other = λ v w h k. small_test n 0 2 (is_over n (at_most_other v w)) (both (nat_lt v n) (nat_lt w n && true) (less_test v n h) (both (nat_lt w n) true (less_test w n k) refl)) (omega arith) (omega arith);
  least_other = λ v w h k. small_test n 0 2 (is_over n (at_least_other v w)) (both (nat_lt v n) (nat_lt w n && true) (less_test v n h) (both (nat_lt w n) true (less_test w n k) refl)) (omega arith) (omega arith);
}
