-- The segments of numbers.
use Rattle.std.proofs.Common.{◌≡◌, ℕ, zero, suc, ◌+◌, ◌<◌, ℤ, Bool, true, false, ◌&&◌, not, cond, List, [], ◌∷◌, length, drop, get_or, Option, Some, None, slice_get, refl, ap, sym, ◌∙◌, arith}
use Rattle.std.specs.List.{position_from}
use Rattle.std.proofs.lemmas.Bool.{and_parts}
use Rattle.lucy_model.specs.Conditions.{holds_at}
use Rattle.lucy_plan.specs.declared.parts.Segment.{Segment}
use Rattle.lucy_plan.specs.declared.parts.PlanParts.{PlanParts}
use Rattle.lucy_plan.specs.Segments.{is_whole, is_among, is_in, is_in_some}
use Rattle.lucy_plan.proofs.Found.{rest_at}
use Rattle.lucy_plan.specs.Laws.{SegmentIsWhole, FirstSegmentIsFirst, NoFirstSegmentIsNone}

pub position_later : (test : Segment → Bool) (segments : List Segment) (i : ℕ) (x : Segment) → i < length segments → x ≡ get_or segments i x → test x ≡ false → position_from test i (drop i segments) ≡ position_from test (i + 1) (drop (i + 1) segments)
position_later test segments i x below at fails =
    ap (position_from test i) (rest_at segments i x below at) ∙ ap (λ b. cond b (Some i) (position_from test (i + 1) (drop (i + 1) segments))) fails

pub segment_whole : SegmentIsWhole
segment_whole plan segment numbers h = at (slice_get plan.segments segment) h
  where
    at : (found : Option Segment) → is_in_some plan found numbers ≡ true → is_whole plan numbers ≡ true
    at None e = absurd (cc)
    at (Some s) e =
        (and_parts (is_whole plan numbers) (holds_at s.condition numbers [])
        (and_parts (is_whole plan numbers && holds_at s.condition numbers []) (not (is_among s.excepts numbers)) e).0).0

-- the first place at which a list passes a test, where the list begins at the place `from`
record IsFirstPlace (test : Segment → Bool) (from : ℕ) (segments : List Segment) (place : ℕ) : Type 0 where
  offset : ℕ
  is : place ≡ from + offset
  segment : Segment
  at : slice_get segments offset ≡ Some segment
  passes : test segment ≡ true
  earlier : (i : ℕ) (other : Segment) → i < offset → slice_get segments i ≡ Some other → test other ≡ false

first_place : (test : Segment → Bool) (from : ℕ) (segments : List Segment) (place : ℕ) → position_from test from segments ≡ Some place → IsFirstPlace test from segments place
first_place test from [] place h = absurd (cc)
first_place test from (s ∷ segments) place h = by (test s) refl h (first_place test (from + 1) segments place)
  where
    by : (b : Bool) → test s ≡ b → cond b (Some from) (position_from test (from + 1) segments) ≡ Some place
        → (position_from test (from + 1) segments ≡ Some place → IsFirstPlace test (from + 1) segments place) → IsFirstPlace test from (s ∷ segments) place
    by true t e rec =
        let same : from ≡ place = cc in
        record { offset = 0; is = omega (arith, same); segment = s; at = refl; passes = t; earlier = λ i other below _. absurd (omega (arith, below)) }
    by false t e rec =
        let found = rec e in
        record {
          offset = suc found.offset;
          is = omega (arith, found.is);
          segment = found.segment;
          at = found.at;
          passes = found.passes;
          earlier = before found.offset found.earlier;
        }
      where
        before : (offset : ℕ) → ((i : ℕ) (other : Segment) → i < offset → slice_get segments i ≡ Some other → test other ≡ false)
            → (i : ℕ) (other : Segment) → i < suc offset → slice_get (s ∷ segments) i ≡ Some other → test other ≡ false
        before offset rest zero other below at = let same : s ≡ other = cc in sym (ap test same) ∙ t
        before offset rest (suc i) other below at = rest i other (omega (arith, below)) at

no_place : (test : Segment → Bool) (from : ℕ) (segments : List Segment) → position_from test from segments ≡ None → (i : ℕ) (other : Segment) → slice_get segments i ≡ Some other → test other ≡ false
no_place test from [] h i other at = absurd (cc)
no_place test from (s ∷ segments) h i other at = by (test s) refl h (no_place test (from + 1) segments) i at
  where
    by : (b : Bool) → test s ≡ b → cond b (Some from) (position_from test (from + 1) segments) ≡ None
        → (position_from test (from + 1) segments ≡ None → (i : ℕ) (other : Segment) → slice_get segments i ≡ Some other → test other ≡ false)
        → (i : ℕ) → slice_get (s ∷ segments) i ≡ Some other → test other ≡ false
    by true t e rec i at = absurd (cc)
    by false t e rec zero at = let same : s ≡ other = cc in sym (ap test same) ∙ t
    by false t e rec (suc i) at = rec e i other at

-- a place of which every segment that stands there fails is no segment of the numbers
none_there : (plan : PlanParts) (numbers : List ℤ) (found : Option Segment) → ((other : Segment) → found ≡ Some other → is_in plan other numbers ≡ false) → is_in_some plan found numbers ≡ true → ⊥
none_there plan numbers None fails h = absurd (cc)
none_there plan numbers (Some s) fails h = let no = fails s refl in absurd (cc)

pub first_is_first : FirstSegmentIsFirst
first_is_first plan numbers segment h =
    let first = first_place (λ s. is_in plan s numbers) 0 plan.segments segment h in
    let is : segment ≡ first.offset = omega (arith, first.is) in (
      ap (λ i. is_in_some plan (slice_get plan.segments i) numbers) is ∙ ap (λ o. is_in_some plan o numbers) first.at ∙ first.passes,
      λ earlier below. none_there plan numbers (slice_get plan.segments earlier) (λ other at. first.earlier earlier other (omega (arith, below, is)) at),
    )

pub no_first : NoFirstSegmentIsNone
no_first plan numbers h segment = none_there plan numbers (slice_get plan.segments segment) (λ other at. no_place (λ s. is_in plan s numbers) 0 plan.segments h segment other at)
