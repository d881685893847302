use Rattle.lucy_closure.proofs.Building.{whole_is}
use Rattle.lucy_closure.proofs.formulas.of_whole.Goals as goal

pub returns-clause-formula : goal.returns-clause-formula
returns-clause-formula c =
    whole_is c.args.plan.now c.args.points.now c.as_slice-object.result.now c.merge_at.result.first c.in_ok-last.last c.in_ok-formula.formula
    c.as_slice-object.ensures c.merge_at.ensures.first c.in_ok-last.ensures c.in_ok-formula.ensures.formula
