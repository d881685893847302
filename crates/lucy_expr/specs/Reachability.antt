-- Which expressions are reachable.
use Rattle.std.specs.Prelude.{ℕ, ℤ, ◌==◌, Bool, false, IsTrue, List, Option, Some, None, slice_get}
use Rattle.std.specs.List.{list_any}
use Rattle.lucy_plan.specs.Calls.{Fits}
use Rattle.lucy_plan.specs.Segments.{IsWhole, IsInSegment}
use Rattle.lucy_plan.specs.declared.parts.Call.{Call}
use Rattle.lucy_plan.specs.declared.parts.Segment.{Segment}
use Rattle.lucy_plan.specs.declared.parts.PlanParts.{PlanParts}
use Rattle.lucy_expr.specs.Trees.{Tree, Start, Apply, Merge, value}

-- a segment, if there is one, has this transaction
abbrev pub lists : Option Segment → ℕ → Bool
lists None txn = false
lists (Some segment) txn = list_any (λ listed. listed == txn) segment.txns

-- the call's transaction is one of those of the segment
abbrev pub RunsIn : PlanParts → ℕ → Call → Type 0
RunsIn plan segment call = IsTrue (lists (slice_get plan.segments segment) call.txn)

-- reachable from an opening state within a segment: the opening is in the segment; each call fits, its
-- transaction is one of the segment's, and its result is in the segment; the parts of a merge are reachable
abbrev pub IsReachable : PlanParts → ℕ → List ℤ → Tree → Type 0
IsReachable plan segment opening Start = IsInSegment plan segment opening
IsReachable plan segment opening (Apply id call inner) =
    IsReachable plan segment opening inner × Fits plan call × RunsIn plan segment call × IsInSegment plan segment (value plan opening (Apply id call inner))
IsReachable plan segment opening (Merge left right) = IsReachable plan segment opening left × IsReachable plan segment opening right

-- reached from the plan's start: the same over the whole invariant, with all transactions
abbrev pub IsReached : PlanParts → Tree → Type 0
IsReached plan Start = IsWhole plan plan.start
IsReached plan (Apply id call inner) = IsReached plan inner × Fits plan call × IsWhole plan (value plan plan.start (Apply id call inner))
IsReached plan (Merge left right) = IsReached plan left × IsReached plan right
