-- The two states of a model.
use Rattle.std.proofs.Common.{◌≡◌, ℕ, ◌+◌, ◌≤◌, ℤ, Bool, true, false, ◌&&◌, List, [], ◌∷◌, ◌++◌, length, refl, sym, subst, arith}
use Rattle.std.specs.Prelude.{int_le}
use Rattle.std.proofs.lemmas.Bool.{and_parts}
use Rattle.lucy_clauses.specs.declared.formulas.Range.{Range}
use Rattle.lucy_clauses.specs.Formulas.{are_within, Models}
use Rattle.lucy_model.specs.declared.conditions.Condition.TheVariants.{True}
use Rattle.lucy_plan.specs.declared.parts.PlanParts.{PlanParts}
use Rattle.lucy_plan.specs.Plans.{IsPlan}
use Rattle.lucy_plan.specs.Segments.{is_whole}
use Rattle.lucy_closure.specs.Points.{are_points}
use Rattle.lucy_closure.specs.Readings.{pair_of}
use Rattle.lucy_closure.specs.Meanings.{IsEscape, WholeModelIsEscape, is_whole_off}
use Rattle.lucy_closure.specs.Formulas.{three_states, pair_parts, whole_closure}
use Rattle.lucy_closure.proofs.Pairs.{parts_ranges, ranges_count}

front_long : (rs more : List Range) (b : List ℤ) → are_within (rs ++ more) b ≡ true → length rs ≤ length b
front_long [] more b h = omega arith
front_long (r ∷ rs) more [] h = absurd (cc)
front_long (r ∷ rs) more (x ∷ b) h =
    let rest = front_long rs more b (and_parts (int_le r.lo x && int_le x r.hi) (are_within (rs ++ more) b) h).1 in
    omega arith

two_of_three : (l n m : ℕ) → n ≡ l + (l + l) → n ≤ m → l + l ≤ m
two_of_three l n m e h = omega arith

-- a model has a number for each leaf of both states
pub pair_numbers : (plan : PlanParts) (points : List (List ℤ)) (a : List ℤ) → Models (whole_closure plan points) a → length plan.object + length plan.object ≤ length a
pair_numbers plan points a m =
    two_of_three (length plan.object) (length (three_states plan.object).ranges) (length a) (ranges_count plan.object)
    (front_long (three_states plan.object).ranges _ a
    (parts_ranges (pair_parts plan.object plan.invariant True points _) (three_states plan.object) a m))

-- they are two states of the invariant whose merge breaks it
pub pair_is : WholeModelIsEscape → (plan parts : PlanParts) (points : List (List ℤ)) (a : List ℤ) (pair : List ℤ × List ℤ) → parts ≡ plan → IsPlan parts
    → are_points (length plan.object) points ≡ true → Models (whole_closure plan points) a → pair ≡ pair_of (length plan.object) a
    → IsEscape plan (is_whole_off plan points) (is_whole plan) pair
pair_is law plan parts points a pair same kept are m is =
    subst (IsEscape plan (is_whole_off plan points) (is_whole plan)) (sym is) (law plan points a (subst IsPlan same kept) are m)
