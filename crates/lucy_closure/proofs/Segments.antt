-- The segments of a plan, one after another, and what is known of each.
use Rattle.std.proofs.Common.{◌≡◌, ℕ, ◌+◌, ◌<◌, ◌==◌, true, ℤ, List, [], ◌∷◌, ◌++◌, map, drop, length, get_or, slice_get, Some, suc, arith, refl, sym, ap, ◌∙◌, append_assoc}
use Rattle.std.specs.List.{list_all}
use Rattle.std.proofs.lemmas.Bool.Decides.{nat_tests}
use Rattle.lucy_model.specs.declared.leaves.Leaf.{Leaf}
use Rattle.lucy_model.specs.Ranges.{allows, all_allowed}
use Rattle.lucy_model.specs.Conditions.{is_condition}
use Rattle.lucy_plan.specs.declared.parts.Segment.{Segment}
use Rattle.lucy_plan.specs.declared.parts.PlanParts.{PlanParts}
use Rattle.lucy_plan.specs.Plans.{IsPlan, is_segment}
use Rattle.lucy_plan.proofs.Found.{found_passes, rest_at, rest_passes}
use Rattle.lucy_normal.specs.declared.normals.Normal.{Normal}
use Rattle.lucy_normal.proofs.Tests.{two, both}
use Rattle.lucy_closure.specs.Points.{are_points}
use Rattle.lucy_closure.specs.Formulas.{is_over, are_over, uncovered}

pub uncovered_more : (ss : List Segment) (i : ℕ) (s : Segment) (part : Normal) (all parts new : List Normal) → i < length ss → s ≡ get_or ss i s → part ≡ uncovered s →
    all ≡ parts ++ map uncovered (drop i ss) → new ≡ parts ++ part ∷ [] → all ≡ new ++ map uncovered (drop (i + 1) ss)
uncovered_more ss i s part all parts new lt is part_is so_far new_is =
    so_far ∙ ap (λ qs. parts ++ map uncovered qs) (rest_at ss i s lt is)
    ∙ ap (λ p. parts ++ (p ∷ map uncovered (drop (i + 1) ss))) (sym part_is)
    ∙ sym (append_assoc parts (part ∷ []) (map uncovered (drop (i + 1) ss)))
    ∙ ap (λ ps. ps ++ map uncovered (drop (i + 1) ss)) (sym new_is)

pub over_more : (leaves : ℕ) (ss : List Segment) (i : ℕ) (s : Segment) → i < length ss → s ≡ get_or ss i s → are_over leaves (drop i ss) ≡ true → are_over leaves (drop (i + 1) ss) ≡ true
over_more leaves ss i s lt is h = rest_passes (is_over leaves) ss i s lt is h

pub over_here : (leaves : ℕ) (ss : List Segment) (i : ℕ) (s : Segment) → i < length ss → s ≡ get_or ss i s → are_over leaves (drop i ss) ≡ true → is_over leaves s ≡ true
over_here leaves ss i s lt is h = (two (is_over leaves s) (are_over leaves (drop (i + 1) ss)) (ap (are_over leaves) (sym (rest_at ss i s lt is)) ∙ h)).0

-- ---- the points of a plan have one number for each leaf

pub allowed_length : (object : List Leaf) (xs : List ℤ) → all_allowed object xs ≡ true → length xs ≡ length object
allowed_length [] [] h = refl
allowed_length [] (x ∷ xs) h = absurd (cc)
allowed_length (leaf ∷ object) [] h = absurd (cc)
allowed_length (leaf ∷ object) (x ∷ xs) h = ap suc (allowed_length object xs (two (allows leaf x) (all_allowed object xs) h).1)

points_over : (object : List Leaf) (points : List (List ℤ)) → list_all (all_allowed object) points ≡ true → are_points (length object) points ≡ true
points_over object [] h = refl
points_over object (p ∷ points) h =
    let t = two (all_allowed object p) (list_all (all_allowed object) points) h in
    both (length p == length object) (are_points (length object) points) (same (length p) (length object) (allowed_length object p t.0)) (points_over object points t.1)
  where
    same : (m n : ℕ) → m ≡ n → (m == n) ≡ true
    same m n e = grind (arith, nat_tests, e)

segments_over : (object : List Leaf) (txns : ℕ) (ss : List Segment) → list_all (is_segment (length object) txns) ss ≡ true → list_all (λ (s : Segment). list_all (all_allowed object) s.excepts) ss ≡ true → are_over (length object) ss ≡ true
segments_over object txns [] h k = refl
segments_over object txns (s ∷ ss) h k =
    let t = two (is_segment (length object) txns s) (list_all (is_segment (length object) txns) ss) h in
    let u = two (list_all (all_allowed object) s.excepts) (list_all (λ (s : Segment). list_all (all_allowed object) s.excepts) ss) k in
    let c = two (is_condition (length object) 0 s.condition) _ t.0 in
    both (is_over (length object) s) (are_over (length object) ss)
    (both (is_condition (length object) 0 s.condition) (are_points (length object) s.excepts) c.0 (points_over object s.excepts u.0)) (segments_over object txns ss t.1 u.1)

pub plan_over : (plan : PlanParts) → IsPlan plan → are_over (length plan.object) plan.segments ≡ true
plan_over plan p = segments_over plan.object (length plan.txns) plan.segments p.segments p.points

pub segment_over : (plan : PlanParts) (i : ℕ) (s : Segment) → IsPlan plan → slice_get plan.segments i ≡ Some s → is_over (length plan.object) s ≡ true
segment_over plan i s p at = found_passes (is_over (length plan.object)) plan.segments i s at (plan_over plan p)
