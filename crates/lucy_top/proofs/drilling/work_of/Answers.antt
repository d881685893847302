use Rattle.lucy_top.proofs.DrillLemmas.{four_if}
use Rattle.lucy_top.proofs.drilling.work_of.Goals as goal

pub returns-clause-four : goal.returns-clause-four
returns-clause-four c = four_if c.args.plan.now c.args.seed c.make_work.result c.make_work.ensures.made
