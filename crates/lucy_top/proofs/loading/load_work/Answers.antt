use Rattle.std.proofs.Common.{◌^◌}
use Rattle.lucy_calls.specs.declared.works.Work.{Work}
use Rattle.lucy_reading.specs.Calls.{work_read}
use Rattle.lucy_top.specs.Commands.{asks_work}
use Rattle.lucy_top.proofs.RunLemmas.{loads_so}
use Rattle.lucy_top.proofs.loading.load_work.Goals as goal

pub returns-clause-loads : goal.returns-clause-loads
unfolding asks_work
returns-clause-loads g c = λ told same.
    let read = rw c.deref.ensures.value at c.take_work.ensures.takes in
    loads_so (λ (w : Work). w.lists) c.args.name.now (2 ^ 25) (work_read c.args.name.now c.args.plan.now) told (g.I.Inputs.journal c.args.inputs.now) (g.I.Inputs.journal c.fetch_input.new.inputs) c.in_ok-text.text.items c.take_work.result
    (c.in_ok-text.ensures.fetched told same) read
