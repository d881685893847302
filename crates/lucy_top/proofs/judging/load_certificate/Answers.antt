use Rattle.std.proofs.Common.{◌^◌}
use Rattle.std.specs.Arc.{arc_value}
use Rattle.lucy_top.specs.Judging.{refusal_in}
use Rattle.lucy_top.specs.Reading.{judged}
use Rattle.lucy_top.specs.Commands.{asks_certificate}
use Rattle.lucy_top.proofs.RunLemmas.{loads_so}
use Rattle.lucy_top.proofs.judging.load_certificate.Goals as goal

pub returns-clause-loads : goal.returns-clause-loads
unfolding asks_certificate
returns-clause-loads g c = λ told same.
    let read = rw c.deref.ensures.value at c.take_certificate.ensures.takes in
    loads_so refusal_in c.args.name.now (2 ^ 26) (judged c.args.name.now (arc_value c.args.plan.now)) told (g.I.Inputs.journal c.args.inputs.now) (g.I.Inputs.journal c.fetch_input.new.inputs) c.in_ok-text.text.items c.take_certificate.result
    (c.in_ok-text.ensures.fetched told same) read
