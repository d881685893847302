use Rattle.std.proofs.Common.{rules, ◌<◌, ◌+◌, ap, sym, ◌∙◌, arith, length, get_or, List}
use Rattle.std.proofs.lemmas.Result.{err_from_is_err_and}
use Rattle.lucy_calls.specs.declared.steps.Step.TheVariants as step
use Rattle.lucy_replica.specs.declared.events.Event.{Event}
use Rattle.lucy_core.specs.Worlds.{World}
use Rattle.lucy_core.proofs.RunLemmas.{run_more, step_keeps_count}
use Rattle.lucy_core.proofs.worlds.World.run.Goals as goal

pub returns-in_err-push-clause-err : goal.returns-in_err-push-clause-err
returns-in_err-push-clause-err c =
    let i = c.loop-step.step-index in
    let within : i < length c.args.steps.now = search rules in
    let more = run_more c.args.self.now c.loop-step.self c.step.new.self c.args.steps.now i (step.Submit 0) c.loop-step.events.items c.in_ok-event.event within c.loop-step.invariant.run c.in_ok-event.ensures.step in
    let p = err_from_is_err_and c.from_residual-in_err-push.result c.from_residual-in_err-push.ensures.1 in
    rw p.1 (i + 1, omega arith, ap (λ (answer : List Event × World). answer.1) (sym more))

pub loop-step-preserved : goal.loop-step-preserved
loop-step-preserved c =
    let i = c.loop-step.step-index in
    let within : i < length c.args.steps.now = search rules in
    let more = run_more c.args.self.now c.loop-step.self c.step.new.self c.args.steps.now i (step.Submit 0) c.loop-step.events.items c.in_ok-event.event within c.loop-step.invariant.run c.in_ok-event.ensures.step in
    record {
      run = rw c.in_ok-push.ensures.items more;
      count = ap (λ (answer : Event × World). length answer.1.replicas) (sym c.in_ok-event.ensures.step) ∙ step_keeps_count c.loop-step.self (get_or c.args.steps.now i (step.Submit 0)) ∙ c.loop-step.invariant.count;
    }

pub returns-in_err-event-clause-facts : goal.returns-in_err-event-clause-facts
returns-in_err-event-clause-facts c = λ n. (c.runs_keep_safe.ensures c.args.self.now c.args.steps.now n c.facts.ensures.safe c.facts.ensures.facts).1

pub returns-in_err-push-clause-facts : goal.returns-in_err-push-clause-facts
returns-in_err-push-clause-facts c = λ n. (c.runs_keep_safe.ensures c.args.self.now c.args.steps.now n c.facts.ensures.safe c.facts.ensures.facts).1

pub returns-clause-facts : goal.returns-clause-facts
returns-clause-facts c = λ n. (c.runs_keep_safe.ensures c.args.self.now c.args.steps.now n c.facts.ensures.safe c.facts.ensures.facts).1
