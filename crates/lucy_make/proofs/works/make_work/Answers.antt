use Rattle.std.proofs.Common.{sym, subst}
use Rattle.lucy_calls.specs.Laws.{IsWorkOf}
use Rattle.lucy_make.proofs.DrawnValues.{work_is}
use Rattle.lucy_make.proofs.WorkLemmas.{made_work_fits}
use Rattle.lucy_make.proofs.works.make_work.Goals as goal

pub returns-clause-made : goal.returns-clause-made
returns-clause-made c =
    work_is c.args.plan.now c.parts.result.now c.as_slice-txns.result.now c.args.seed c.args.replicas c.args.calls c.new-chaos.result c.draw_lists.new.chaos c.in_ok-lists.lists
    c.parts.ensures.parts c.as_slice-txns.ensures c.new-chaos.ensures c.in_ok-lists.ensures

pub returns-clause-fits : goal.returns-clause-fits
returns-clause-fits c = λ some few short. subst (IsWorkOf c.args.plan.now) (sym (returns-clause-made c)) (made_work_fits c.args.plan.now c.args.seed c.args.replicas c.args.calls some few short)
