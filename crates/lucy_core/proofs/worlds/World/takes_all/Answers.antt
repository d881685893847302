use Rattle.std.proofs.Common.{rules, ◌<◌, ◌≤◌, length, get_or, List, refl, subst, arith}
use Rattle.std.specs.Prelude.{All}
use Rattle.std.proofs.lemmas.List.{take_all}
use Rattle.std.proofs.lemmas.List.Elements.{All-more}
use Rattle.lucy_calls.specs.declared.steps.Step.{Step}
use Rattle.lucy_calls.specs.declared.steps.Step.TheVariants as step
use Rattle.lucy_calls.specs.Laws.{IsStepOf}
use Rattle.lucy_core.proofs.worlds.World.takes_all.Goals as goal

pub loop-step-preserved : goal.loop-step-preserved
loop-step-preserved c =
    let i = c.loop-step.step-index in
    let within : i < length c.args.steps.now = search rules in
    let taken : IsStepOf (length c.args.self.now.replicas) (get_or c.args.steps.now i (step.Submit 0)) = search rules in
    All-more (IsStepOf (length c.args.self.now.replicas)) c.args.steps.now i (step.Submit 0) within c.loop-step.invariant taken

pub returns : goal.returns
returns c =
    let past : length c.args.steps.now ≤ c.loop-step.step-index = omega arith in
    let all = subst (λ (steps : List Step). All (IsStepOf (length c.args.self.now.replicas)) steps) (take_all c.loop-step.step-index c.args.steps.now past) c.loop-step.invariant in
    (λ yes. all, λ taken. refl)
