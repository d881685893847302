use Rattle.std.proofs.Common.{◌≡◌, ◌^◌, Ok}
use Rattle.std.specs.Arc.{arc_value}
use Rattle.lucy_top.specs.Reading.{plan_said}
use Rattle.lucy_top.specs.Commands.{asks_plan}
use Rattle.lucy_top.specs.Fetching.{PlanIsGiven}
use Rattle.lucy_top.proofs.GivenLemmas.{plan_given}
use Rattle.lucy_top.proofs.OpeningLemmas.{ok_weaker}
use Rattle.lucy_top.proofs.RunLemmas.{loads_so}
use Rattle.lucy_top.proofs.loading.load_plan.Goals as goal

pub returns-clause-loads : goal.returns-clause-loads
unfolding asks_plan
returns-clause-loads g c = λ told same.
    let read = rw c.deref.ensures.value at c.take_plan.ensures.takes in
    loads_so (λ found. arc_value found.0) c.args.name.now (2 ^ 20) (plan_said c.args.name.now) told (g.I.Inputs.journal c.args.inputs.now) (g.I.Inputs.journal c.fetch_input.new.inputs) c.in_ok-text.text.items c.take_plan.result
    (c.in_ok-text.ensures.fetched told same) read

pub returns-clause-given : goal.returns-clause-given
returns-clause-given g c = λ told same.
    let said = rw c.deref.ensures.value at c.take_plan.ensures.said in
    ok_weaker (λ found. plan_said c.args.name.now c.in_ok-text.text.items ≡ Ok (arc_value found.0))
    (λ found. PlanIsGiven told c.args.name.now (arc_value found.0) (g.I.Inputs.journal c.args.inputs.now) (g.I.Inputs.journal c.fetch_input.new.inputs)) c.take_plan.result
    (λ found is. plan_given told c.args.name.now (g.I.Inputs.journal c.args.inputs.now) (g.I.Inputs.journal c.fetch_input.new.inputs) c.in_ok-text.text (arc_value found.0) (c.in_ok-text.ensures.fetched told same) is)
    said
