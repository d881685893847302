-- In a sound plan, what is reachable within a segment stays in it.
use Rattle.std.proofs.Common.{◌≡◌, ◌&&◌, ◌==◌, nat_lt, ℕ, ℤ, Bool, true, false, List, [], ◌∷◌, length, refl, ap, sym, ◌∙◌, subst, arith}
use Rattle.std.specs.Prelude.{IsTrue, Option, Some, None, slice_get}
use Rattle.std.specs.List.{list_any}
use Rattle.lucy_model.specs.declared.leaves.Leaf.{Leaf}
use Rattle.lucy_model.specs.Ranges.{allows, all_allowed}
use Rattle.lucy_model.specs.Merging.{merged}
use Rattle.lucy_model.specs.Laws.{MergeIsIdempotent}
use Rattle.lucy_plan.specs.declared.parts.Segment.{Segment}
use Rattle.lucy_plan.specs.declared.parts.PlanParts.{PlanParts}
use Rattle.lucy_plan.specs.Segments.{IsWhole, IsInSegment}
use Rattle.lucy_plan.specs.Soundness.{IsSound, has_txns, runs_some}
use Rattle.lucy_plan.specs.Laws.{SegmentIsWhole}
use Rattle.lucy_expr.specs.Trees.{Tree, Start, Apply, Merge, value}
use Rattle.lucy_expr.specs.Reachability.{lists, IsReachable}
use Rattle.lucy_expr.specs.Laws.{ClosedSegmentHoldsValues}

pub left_true : (a b : Bool) → IsTrue (a && b) → IsTrue a
left_true true b h = refl
left_true false b h = h

pub right_true : (a b : Bool) → IsTrue (a && b) → IsTrue b
right_true true b h = h
right_true false b h = absurd (false_true h)
  where
    false_true : IsTrue false → ⊥
    false_true e = cc

-- as many numbers as leaves
allowed_length : (object : List Leaf) (xs : List ℤ) → IsTrue (all_allowed object xs) → length xs ≡ length object
allowed_length [] [] h = refl
allowed_length [] (x ∷ xs) h = cc
allowed_length (leaf ∷ leaves) [] h = cc
allowed_length (leaf ∷ leaves) (x ∷ xs) h =
    let rest = allowed_length leaves xs (right_true (allows leaf x) (all_allowed leaves xs) h) in omega (arith, rest)

pub whole_length : (plan : PlanParts) (state : List ℤ) → IsWhole plan state → length state ≡ length plan.object
whole_length plan state h = allowed_length plan.object state (left_true (all_allowed plan.object state) _ h)

-- a segment that lists a transaction has one
some_run : (txns : List ℕ) (txn : ℕ) → IsTrue (list_any (λ listed. listed == txn) txns) → IsTrue (nat_lt 0 (length txns))
some_run [] txn h = cc
some_run (first ∷ txns) txn h = grind arith

lists_runs : (segment : Option Segment) (txn : ℕ) → IsTrue (lists segment txn) → IsTrue (runs_some segment)
lists_runs None txn h = cc
lists_runs (Some segment) txn h = some_run segment.txns txn h

-- without transactions nothing is reachable but the opening
opening_alone : (plan : PlanParts) (segment : ℕ) (opening : List ℤ) (tree : Tree) → MergeIsIdempotent → length opening ≡ length plan.object
    → (IsTrue (has_txns plan segment) → ⊥) → IsReachable plan segment opening tree → value plan opening tree ≡ opening
opening_alone plan segment opening Start idempotent even none h = refl
opening_alone plan segment opening (Apply id call inner) idempotent even none h = absurd (none (lists_runs (slice_get plan.segments segment) call.txn h.2))
opening_alone plan segment opening (Merge left right) idempotent even none h =
    ap (λ (x : List ℤ). merged plan.object x (value plan opening right)) (opening_alone plan segment opening left idempotent even none h.0)
    ∙ ap (merged plan.object opening) (opening_alone plan segment opening right idempotent even none h.1)
    ∙ idempotent plan.object opening even

-- where something is reachable, the opening is in the segment
opening_in : (plan : PlanParts) (segment : ℕ) (opening : List ℤ) (tree : Tree) → IsReachable plan segment opening tree → IsInSegment plan segment opening
opening_in plan segment opening Start h = h
opening_in plan segment opening (Apply id call inner) h = opening_in plan segment opening inner h.0
opening_in plan segment opening (Merge left right) h = opening_in plan segment opening left h.0

no_txns : (b : Bool) → b ≡ false → IsTrue b → ⊥
no_txns b e h = cc

value_in : (plan : PlanParts) (segment : ℕ) (opening : List ℤ) (tree : Tree) → ClosedSegmentHoldsValues → MergeIsIdempotent → SegmentIsWhole → IsSound plan
    → IsReachable plan segment opening tree → (b : Bool) → has_txns plan segment ≡ b → IsInSegment plan segment (value plan opening tree)
value_in plan segment opening tree holds idempotent whole sound h true e = holds plan segment opening tree (sound.closed segment e) h
value_in plan segment opening tree holds idempotent whole sound h false e =
    let within = opening_in plan segment opening tree h in
    let even = whole_length plan opening (whole plan segment opening within) in
    subst (IsInSegment plan segment) (sym (opening_alone plan segment opening tree idempotent even (no_txns (has_txns plan segment) e) h)) within

-- what is reachable within a segment of a sound plan has its value there
pub value_within : (plan : PlanParts) (segment : ℕ) (opening : List ℤ) (tree : Tree) → ClosedSegmentHoldsValues → MergeIsIdempotent → SegmentIsWhole → IsSound plan
    → IsReachable plan segment opening tree → IsInSegment plan segment (value plan opening tree)
value_within plan segment opening tree holds idempotent whole sound h = value_in plan segment opening tree holds idempotent whole sound h (has_txns plan segment) refl
