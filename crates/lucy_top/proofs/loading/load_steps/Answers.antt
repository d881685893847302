use Rattle.std.proofs.Common.{◌^◌}
use Rattle.std.specs.Global.{Vec}
use Rattle.lucy_calls.specs.declared.steps.Step.{Step}
use Rattle.lucy_reading.specs.Calls.{steps_read}
use Rattle.lucy_top.specs.Commands.{asks_steps}
use Rattle.lucy_top.proofs.RunLemmas.{loads_so}
use Rattle.lucy_top.proofs.loading.load_steps.Goals as goal

pub returns-clause-loads : goal.returns-clause-loads
unfolding asks_steps
returns-clause-loads g c = λ told same.
    let read = rw c.deref.ensures.value at c.take_steps.ensures.takes in
    loads_so (λ (v : Vec Step). v.items) c.args.name.now (2 ^ 20) (steps_read c.args.name.now c.args.replicas) told (g.I.Inputs.journal c.args.inputs.now) (g.I.Inputs.journal c.fetch_input.new.inputs) c.in_ok-text.text.items c.take_steps.result
    (c.in_ok-text.ensures.fetched told same) read
