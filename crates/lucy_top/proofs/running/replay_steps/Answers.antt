use Rattle.std.proofs.Common.{rules, ◌≡◌, [], ◌<◌, ◌≤◌, length, ap, ◌∙◌, arith}
use Rattle.std.specs.Arc.{arc_value}
use Rattle.lucy_calls.specs.declared.steps.Step.TheVariants.{Submit}
use Rattle.lucy_epochs.specs.Records.{first_record}
use Rattle.lucy_core.specs.Worlds.{World, opening_world}
use Rattle.lucy_core.specs.Steps.{world_after}
use Rattle.lucy_top.specs.Replays.{run_lines}
use Rattle.lucy_top.proofs.NamingLemmas.{named_so}
use Rattle.lucy_top.proofs.RunningLemmas.{as_many, text_more, world_more, count_more, world_done}
use Rattle.lucy_top.proofs.running.replay_steps.Goals as goal

pub loop-step-init : goal.loop-step-init
loop-step-init c =
    let work = c.args.work.now.lists in
    let steps = c.args.steps.now in
    let is = c.in_ok-world.ensures.opening in
    let none : c.new-text.result.items ≡ [] = search rules in
    record {
      text = rw none (ap (λ (w : World). run_lines w steps) is);
      world = ap (λ (w : World). world_after w steps) is;
      replicas = ap (λ (w : World). length w.replicas) is ∙ as_many (first_record (arc_value c.args.checked)) (length work) 0 work;
    }

pub loop-step-preserved : goal.loop-step-preserved
loop-step-preserved c =
    let within : c.loop-step.step-index < length c.args.steps.now = search rules in
    let old : World = c.loop-step.world in
    let new : World = c.take_step.new.world in
    let inv = c.loop-step.invariant in
    let is = c.in_ok-take_step.ensures.world in
    let opening : World = opening_world (arc_value c.args.checked) c.args.work.now.lists in
    record {
      text = text_more old new c.args.steps.now c.loop-step.step-index (Submit 0) within is c.loop-step.text.items c.take_step.new.text.items (run_lines opening c.args.steps.now) c.in_ok-take_step.ensures.text inv.text;
      world = world_more old new c.args.steps.now c.loop-step.step-index (Submit 0) within is (world_after opening c.args.steps.now) inv.world;
      replicas = count_more old new c.args.steps.now c.loop-step.step-index (Submit 0) within is c.work_stays.ensures (length c.args.work.now.lists) inv.replicas;
    }

pub write_world-requires : goal.write_world-requires
write_world-requires c =
    let plan = arc_value c.args.checked in
    let work = c.args.work.now.lists in
    let steps = c.args.steps.now in
    let past : length steps ≤ c.loop-step.step-index = omega arith in
    let is = world_done c.loop-step.world (world_after (opening_world plan work) steps) steps c.loop-step.step-index past c.loop-step.invariant.world in
    rw c.epochs.ensures (named_so c.records_stay.ensures plan work steps c.loop-step.world c.args.names.now c.facts.ensures.facts is c.requires.names)
