-- That a third state is the merge of two others.
use Rattle.std.proofs.Common.{◌≡◌, ℕ, ◌+◌, Bool, true, false, ◌||◌, ◌&&◌, ℤ, int_le, List, [], ◌∷◌, length, refl, ap, ◌∙◌, arith}
use Rattle.std.specs.Ordering.{int_eq}
use Rattle.std.specs.Cmp.Lexicographic.{pointwise}
use Rattle.std.proofs.lemmas.List.Folds.{list_all-append}
use Rattle.lucy_clauses.specs.Sums.{Form, number_at}
use Rattle.lucy_model.specs.declared.leaves.Kind.{Kind}
use Rattle.lucy_model.specs.declared.leaves.Kind.TheVariants.{Max, Min}
use Rattle.lucy_model.specs.declared.leaves.Leaf.{Leaf}
use Rattle.lucy_model.specs.Merging.{merged, merged_number}
use Rattle.lucy_normal.specs.declared.normals.Normal.{Normal}
use Rattle.lucy_normal.specs.declared.normals.Normal.TheVariants.{Atom as Lone}
use Rattle.lucy_normal.specs.Linear.{at_most_other, at_least_other}
use Rattle.lucy_normal.specs.Shapes.{true_at, all_true_at}
use Rattle.lucy_normal.specs.Laws.{SaysState}
use Rattle.lucy_normal.proofs.Tests.{and_true, or_false}
use Rattle.lucy_normal.proofs.FlatLists.{true_any, true_lone}
use Rattle.lucy_closure.specs.Merges.{either, merged_leaf, merged_leaves}
use Rattle.lucy_closure.proofs.Assignments.{says_head, says_tail, says_at}
use Rattle.lucy_closure.proofs.Numbers.{at_most_other_is, at_least_other_is, greater_number, lesser_number}

most_other : (b : List ℤ) (v w : ℕ) (x m : ℤ) → number_at b v ≡ x → number_at b w ≡ m → true_at (Lone (at_most_other v w)) b ≡ int_le x m
most_other b v w x m e f = true_lone b (at_most_other v w) ∙ at_most_other_is (number_at b v) (number_at b w) ∙ ap (λ (y : ℤ). int_le y (number_at b w)) e ∙ ap (λ (y : ℤ). int_le x y) f

least_other : (b : List ℤ) (v w : ℕ) (x m : ℤ) → number_at b v ≡ x → number_at b w ≡ m → true_at (Lone (at_least_other v w)) b ≡ int_le m x
least_other b v w x m e f = true_lone b (at_least_other v w) ∙ at_least_other_is (number_at b v) (number_at b w) ∙ ap (λ (y : ℤ). int_le (number_at b w) y) e ∙ ap (λ (y : ℤ). int_le y x) f

either_means : (b : List ℤ) (t u : Form) (x y : Bool) → true_at (Lone t) b ≡ x → true_at (Lone u) b ≡ y → true_at (either t u) b ≡ (x || y)
either_means b t u x y e f =
    true_any b (Lone t ∷ Lone u ∷ []) ∙ ap (λ (c : Bool). c || (true_at (Lone u) b || false)) e ∙ ap (λ (c : Bool). x || c) (or_false (true_at (Lone u) b) ∙ f)

three : (t u s p q r : Bool) → t ≡ p → u ≡ q → s ≡ r → (t && (u && (s && true))) ≡ (p && (q && r))
three t u s p q r e f g = ap (λ (c : Bool). c && (u && (s && true))) e ∙ ap (λ (c : Bool). p && (c && (s && true))) f ∙ ap (λ (c : Bool). p && (q && c)) (and_true s ∙ g)

leaf_means : (b : List ℤ) (kind : Kind) (v w u : ℕ) (x y m : ℤ) → number_at b v ≡ x → number_at b w ≡ y → number_at b u ≡ m → all_true_at b (merged_leaf kind v w u) ≡ int_eq m (merged_number kind x y)
leaf_means b Max v w u x y m e f g =
    three _ _ _ (int_le x m) (int_le y m) (int_le m x || int_le m y) (most_other b v u x m e g) (most_other b w u y m f g)
    (either_means b (at_least_other v u) (at_least_other w u) (int_le m x) (int_le m y) (least_other b v u x m e g) (least_other b w u y m f g))
    ∙ greater_number x y m
leaf_means b Min v w u x y m e f g =
    three _ _ _ (int_le m x) (int_le m y) (int_le x m || int_le y m) (least_other b v u x m e g) (least_other b w u y m f g)
    (either_means b (at_most_other v u) (at_most_other w u) (int_le x m) (int_le y m) (most_other b v u x m e g) (most_other b w u y m f g))
    ∙ lesser_number x y m

-- three states, each with its leaves from one variable on
pub record Three (n i : ℕ) (object : List Leaf) (xs ys ms b : List ℤ) : Type 0 where
  pub left : SaysState i (length object) xs b
  pub right : SaysState (n + i) (length object) ys b
  pub merge : SaysState (n + (n + i)) (length object) ms b

plus_one : (n i : ℕ) → (n + i) + 1 ≡ n + (i + 1)
plus_one n i = omega arith

plus_two : (n i : ℕ) → (n + (n + i)) + 1 ≡ n + (n + (i + 1))
plus_two n i = omega arith

three_tail : (n i : ℕ) (leaf : Leaf) (object : List Leaf) (x y m : ℤ) (xs ys ms b : List ℤ) → Three n i (leaf ∷ object) (x ∷ xs) (y ∷ ys) (m ∷ ms) b → Three n (i + 1) object xs ys ms b
three_tail n i leaf object x y m xs ys ms b t = record {
  left = says_tail i (length object) x xs b t.left;
  right = says_at ((n + i) + 1) (n + (i + 1)) (length object) ys b (plus_one n i) (says_tail (n + i) (length object) y ys b t.right);
  merge = says_at ((n + (n + i)) + 1) (n + (n + (i + 1))) (length object) ms b (plus_two n i) (says_tail (n + (n + i)) (length object) m ms b t.merge);
}

pub merges_mean : (n i : ℕ) (object : List Leaf) (xs ys ms b : List ℤ) → length xs ≡ length object → length ys ≡ length object → length ms ≡ length object → Three n i object xs ys ms b →
    all_true_at b (merged_leaves n i object) ≡ pointwise int_eq ms (merged object xs ys)
merges_mean n i [] [] [] [] b p q r t = refl
merges_mean n i [] (x ∷ xs) ys ms b p q r t = absurd (cc)
merges_mean n i [] [] (y ∷ ys) ms b p q r t = absurd (cc)
merges_mean n i [] [] [] (m ∷ ms) b p q r t = absurd (cc)
merges_mean n i (leaf ∷ object) [] ys ms b p q r t = absurd (cc)
merges_mean n i (leaf ∷ object) (x ∷ xs) [] ms b p q r t = absurd (cc)
merges_mean n i (leaf ∷ object) (x ∷ xs) (y ∷ ys) [] b p q r t = absurd (cc)
merges_mean n i (leaf ∷ object) (x ∷ xs) (y ∷ ys) (m ∷ ms) b p q r t =
    list_all-append (λ (p : Normal). true_at p b) (merged_leaf leaf.kind i (n + i) (n + (n + i))) (merged_leaves n (i + 1) object)
    ∙ ap (λ (c : Bool). c && all_true_at b (merged_leaves n (i + 1) object))
    (leaf_means b leaf.kind i (n + i) (n + (n + i)) x y m (says_head i (length object) x xs b t.left) (says_head (n + i) (length object) y ys b t.right) (says_head (n + (n + i)) (length object) m ms b t.merge))
    ∙ ap (λ (c : Bool). int_eq m (merged_number leaf.kind x y) && c)
    (merges_mean n (i + 1) object xs ys ms b (omega (arith, p)) (omega (arith, q)) (omega (arith, r)) (three_tail n i leaf object x y m xs ys ms b t))
