use Rattle.lucy_calls.specs.Laws as calls
use Rattle.lucy_calls.specs.declared.works.Work.{Work}
use Rattle.lucy_core.specs.Worlds.{IsWorkOf}
use Rattle.lucy_reading.specs.Calls.{work_read}
use Rattle.lucy_top.proofs.OpeningLemmas.{work_so, read_so, ok_weaker}
use Rattle.lucy_top.proofs.RunLemmas.{takes_so}
use Rattle.lucy_top.proofs.loading.take_work.Goals as goal

pub returns-clause-takes : goal.returns-clause-takes
returns-clause-takes c = takes_so (λ (w : Work). w.lists) (work_read c.args.name.now c.args.plan.now c.args.text.now) c.read_work-read.result c.or_refused.result c.read_work-read.ensures.read c.or_refused.ensures

pub returns-clause-fits : goal.returns-clause-fits
returns-clause-fits c =
    let plan = c.args.plan.now in
    read_so (λ (w : Work). IsWorkOf plan w.lists) c.read_work-read.result c.or_refused.result c.or_refused.ensures
    (ok_weaker (λ (w : Work). calls.IsWorkOf plan w.lists) (λ (w : Work). IsWorkOf plan w.lists) c.read_work-read.result (λ w. work_so plan w.lists) c.read_work-read.ensures.fits)
