-- That a state is a point, and that it is not.
use Rattle.std.proofs.Common.{◌≡◌, ℕ, ◌+◌, ◌==◌, Bool, true, false, not, ◌||◌, ◌&&◌, ℤ, pos, int_le, ◌-ℤ◌, ◌+ℤ◌, List, [], ◌∷◌, map, length, refl, sym, ap, ◌∙◌, subst, arith}
use Rattle.std.specs.Ordering.{int_eq}
use Rattle.std.specs.Cmp.Lexicographic.{pointwise}
use Rattle.std.proofs.lemmas.Bool.Decides.{nat_tests}
use Rattle.lucy_clauses.specs.Sums.{number_at, is_true}
use Rattle.lucy_plan.specs.Segments.{is_among}
use Rattle.lucy_clauses.specs.Bounds.{at_most, at_least}
use Rattle.lucy_normal.specs.Shapes.{all_true_at, any_true_at}
use Rattle.lucy_normal.specs.Laws.{SaysState}
use Rattle.lucy_normal.proofs.Tests.{two}
use Rattle.lucy_normal.proofs.FlatLists.{true_all, true_any, true_lone}
use Rattle.lucy_closure.specs.Points.{on_leaves, off_leaves, at_point, off_point, are_points}
use Rattle.lucy_closure.proofs.Assignments.{says_head, says_tail}
use Rattle.lucy_closure.proofs.Numbers.{at_most_is, at_least_is, on_number, off_number}

pub most_true : (b : List ℤ) (v : ℕ) (x p : ℤ) → number_at b v ≡ x → is_true b (at_most v p) ≡ int_le x p
most_true b v x p e = at_most_is (number_at b v) p ∙ ap (λ (y : ℤ). int_le y p) e

pub least_true : (b : List ℤ) (v : ℕ) (x p : ℤ) → number_at b v ≡ x → is_true b (at_least v p) ≡ int_le p x
least_true b v x p e = at_least_is (number_at b v) p ∙ ap (λ (y : ℤ). int_le p y) e

on_step : (t u s w r q e : Bool) → t ≡ s → u ≡ w → (s && w) ≡ e → r ≡ q → (t && (u && r)) ≡ (e && q)
on_step t u s w r q e h k l m =
    ap (λ (b : Bool). b && (u && r)) h ∙ ap (λ (b : Bool). s && (b && r)) k ∙ assoc s w r ∙ ap (λ (b : Bool). b && r) l ∙ ap (λ (b : Bool). e && b) m
  where
    assoc : (a b c : Bool) → (a && (b && c)) ≡ ((a && b) && c)
    assoc true b c = refl
    assoc false b c = refl

off_step : (t u s w r q e : Bool) → t ≡ s → u ≡ w → (s || w) ≡ not e → r ≡ not q → (t || (u || r)) ≡ not (e && q)
off_step t u s w r q e h k l m =
    ap (λ (b : Bool). b || (u || r)) h ∙ ap (λ (b : Bool). s || (b || r)) k ∙ assoc s w r ∙ ap (λ (b : Bool). b || r) l ∙ ap (λ (b : Bool). not e || b) m ∙ turned e q
  where
    assoc : (a b c : Bool) → (a || (b || c)) ≡ ((a || b) || c)
    assoc true b c = refl
    assoc false b c = refl

    turned : (a b : Bool) → (not a || not b) ≡ not (a && b)
    turned true b = refl
    turned false b = refl

on_leaves_mean : (b : List ℤ) (v : ℕ) (ps xs : List ℤ) → SaysState v (length xs) xs b → length ps ≡ length xs → all_true_at b (on_leaves v ps) ≡ pointwise int_eq ps xs
on_leaves_mean b v [] [] says e = refl
on_leaves_mean b v [] (x ∷ xs) says e = absurd (cc)
on_leaves_mean b v (p ∷ ps) [] says e = absurd (cc)
on_leaves_mean b v (p ∷ ps) (x ∷ xs) says e =
    let at = says_head v (length xs) x xs b says in
    on_step _ _ (int_le x p) (int_le p x) (all_true_at b (on_leaves (v + 1) ps)) (pointwise int_eq ps xs) (int_eq p x)
    (true_lone b (at_most v p) ∙ most_true b v x p at) (true_lone b (at_least v p) ∙ least_true b v x p at) (on_number p x)
    (on_leaves_mean b (v + 1) ps xs (says_tail v (length xs) x xs b says) (omega (arith, e)))

off_leaves_mean : (b : List ℤ) (v : ℕ) (ps xs : List ℤ) → SaysState v (length xs) xs b → length ps ≡ length xs → any_true_at b (off_leaves v ps) ≡ not (pointwise int_eq ps xs)
off_leaves_mean b v [] [] says e = refl
off_leaves_mean b v [] (x ∷ xs) says e = absurd (cc)
off_leaves_mean b v (p ∷ ps) [] says e = absurd (cc)
off_leaves_mean b v (p ∷ ps) (x ∷ xs) says e =
    let at = says_head v (length xs) x xs b says in
    off_step _ _ (int_le x (p -ℤ pos 1)) (int_le (p +ℤ pos 1) x) (any_true_at b (off_leaves (v + 1) ps)) (pointwise int_eq ps xs) (int_eq p x)
    (true_lone b (at_most v (p -ℤ pos 1)) ∙ most_true b v x (p -ℤ pos 1) at) (true_lone b (at_least v (p +ℤ pos 1)) ∙ least_true b v x (p +ℤ pos 1) at) (off_number p x)
    (off_leaves_mean b (v + 1) ps xs (says_tail v (length xs) x xs b says) (omega (arith, e)))

even : (m n k : ℕ) → (m == n) ≡ true → k ≡ n → m ≡ k
even m n k h e = grind (arith, nat_tests, h, e)

-- a state and points with as many numbers as there are leaves
pub record Beside (leaves v : ℕ) (points : List (List ℤ)) (xs b : List ℤ) : Type 0 where
  pub says : SaysState v leaves xs b
  pub length_is : length xs ≡ leaves
  pub points_are : are_points leaves points ≡ true

says_all : (leaves v : ℕ) (xs b : List ℤ) → length xs ≡ leaves → SaysState v leaves xs b → SaysState v (length xs) xs b
says_all leaves v xs b e = subst (λ (n : ℕ). SaysState v n xs b) (sym e)

pub off_points_mean : (leaves v : ℕ) (points : List (List ℤ)) (xs b : List ℤ) → Beside leaves v points xs b → all_true_at b (map (off_point v) points) ≡ not (is_among points xs)
off_points_mean leaves v [] xs b h = refl
off_points_mean leaves v (p ∷ points) xs b h =
    let t = two (length p == leaves) (are_points leaves points) h.points_are in
    ap (λ (c : Bool). c && all_true_at b (map (off_point v) points)) (true_any b (off_leaves v p) ∙ off_leaves_mean b v p xs (says_all leaves v xs b h.length_is h.says) (even (length p) leaves (length xs) t.0 h.length_is))
    ∙ ap (λ (c : Bool). not (pointwise int_eq p xs) && c) (off_points_mean leaves v points xs b (record { says = h.says; length_is = h.length_is; points_are = t.1 }))
    ∙ turned (pointwise int_eq p xs) (is_among points xs)
  where
    turned : (a b : Bool) → (not a && not b) ≡ not (a || b)
    turned true b = refl
    turned false b = refl

pub at_points_mean : (leaves v : ℕ) (points : List (List ℤ)) (xs b : List ℤ) → Beside leaves v points xs b → any_true_at b (map (at_point v) points) ≡ is_among points xs
at_points_mean leaves v [] xs b h = refl
at_points_mean leaves v (p ∷ points) xs b h =
    let t = two (length p == leaves) (are_points leaves points) h.points_are in
    ap (λ (c : Bool). c || any_true_at b (map (at_point v) points)) (true_all b (on_leaves v p) ∙ on_leaves_mean b v p xs (says_all leaves v xs b h.length_is h.says) (even (length p) leaves (length xs) t.0 h.length_is))
    ∙ ap (λ (c : Bool). pointwise int_eq p xs || c) (at_points_mean leaves v points xs b (record { says = h.says; length_is = h.length_is; points_are = t.1 }))
