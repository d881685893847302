use Rattle.std.proofs.Common.{refl, inl, inr, Err}
use Rattle.std.specs.Arc.{arc_value}
use Rattle.lucy_top.specs.Commands.{asks_plan}
use Rattle.lucy_top.proofs.EndLemmas.{ends_so}
use Rattle.lucy_top.proofs.labelling.label.Goals as goal

pub returns-in-Ok-clause-labels : goal.returns-in-Ok-clause-labels
returns-in-Ok-clause-labels g c = λ told same. inr (record { plan = arc_value c.in-Ok.plan; given = c.in-Ok.ensures.given told same; begins = c.begin.ensures.begins })

pub returns-in-Err-clause-labels : goal.returns-in-Err-clause-labels
returns-in-Err-clause-labels g c = λ told same. inl (record {
  ends = λ next. ends_so (asks_plan c.args.plan_name.now next) told (g.I.Inputs.journal c.args.inputs.now) (g.I.Inputs.journal c.load_plan.new.inputs) (Err c.in-Err.stop)
      (g.K.Sink.held c.args.sink.now) (g.K.Sink.held c.finish.new.sink) (g.K.Sink.faults c.args.sink.now) (g.K.Sink.faults c.finish.new.sink) c.finish.result
      (c.in-Err.ensures.loads told same next) c.finish.ensures;
  untaken = refl;
  still = refl;
})
