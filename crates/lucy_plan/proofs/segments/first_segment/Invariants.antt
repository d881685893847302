use Rattle.std.proofs.Common.{◌≡◌, true, drop, length}
use Rattle.std.specs.List.{list_all, position_from}
use Rattle.lucy_plan.specs.Segments.{is_in}
use Rattle.lucy_plan.specs.Plans.{is_segment}
use Rattle.lucy_plan.proofs.segments.first_segment.Given as goal

abbrev pub invariant-loop-i : goal.invariant-loop-i
invariant-loop-i l = (position_from (λ segment. is_in l.plan segment l.raw) 0 l.plan.segments ≡ position_from (λ segment. is_in l.plan segment l.raw) l.i (drop l.i l.plan.segments))
    × (list_all (is_segment (length l.plan.object) (length l.plan.txns)) (drop l.i l.plan.segments) ≡ true)
