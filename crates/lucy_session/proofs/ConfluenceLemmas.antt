-- Confluence, by induction over expressions.
use Rattle.std.proofs.Common.{◌≡◌, true, false, Bool, ◌&&◌, not, ℤ, List, ap}
use Rattle.std.proofs.lemmas.Bool.{and_from}
use Rattle.lucy_plan.specs.Segments.{IsWhole, is_whole, is_among}
use Rattle.lucy_plan.specs.declared.parts.PlanParts.{PlanParts}
use Rattle.lucy_expr.specs.Trees.{Tree, Start, Apply, Merge, value}
use Rattle.lucy_expr.specs.Reachability.{IsReached}
use Rattle.lucy_closure.specs.Meanings.{IsWholeClosedOff}
use Rattle.lucy_session.specs.Laws.{AreUnreached, ClosedIsConfluent, BrokenIsNotConfluent}

whole_at : (plan : PlanParts) (points : List (List ℤ)) → IsWholeClosedOff plan points → AreUnreached plan points → (tree : Tree) → IsReached plan tree → IsWhole plan (value plan plan.start tree)
whole_at plan points closed off Start h = h
whole_at plan points closed off (Apply id call inner) h = h.2
whole_at plan points closed off (Merge left right) h =
    let first = value plan plan.start left in
    let second = value plan plan.start right in
    closed first second
    (and_from (is_whole plan first) (not (is_among points first)) (whole_at plan points closed off left h.0) (ap not (off left h.0)))
    (and_from (is_whole plan second) (not (is_among points second)) (whole_at plan points closed off right h.1) (ap not (off right h.1)))

pub closed_is_confluent : ClosedIsConfluent
closed_is_confluent plan points closed off tree h = whole_at plan points closed off tree h

clash : (b : Bool) → b ≡ true → b ≡ false → ⊥
clash b p q = cc

pub broken_is_not_confluent : BrokenIsNotConfluent
broken_is_not_confluent plan left right l r broken confluent = clash (is_whole plan (value plan plan.start (Merge left right))) (confluent (Merge left right) (l, r)) broken
