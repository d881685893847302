use Rattle.lucy_closure.proofs.Building.{segment_is}
use Rattle.lucy_closure.proofs.formulas.of_segment.Goals as goal

pub returns : goal.returns
returns c =
    segment_is c.args.plan.now c.args.segment.now c.as_slice-object.result.now c.as_slice-points.result.now c.merge_at-at.result.first c.in_ok-last.last c.in_ok-formula.formula
    c.as_slice-object.ensures c.as_slice-points.ensures c.merge_at-at.ensures.first c.in_ok-last.ensures c.in_ok-formula.ensures.formula
