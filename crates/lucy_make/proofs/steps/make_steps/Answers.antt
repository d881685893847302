use Rattle.std.proofs.Common.{arith, ◌≡◌, ◌<◌, ◌^◌, sym, ap, subst}
use Rattle.std.specs.List.{All}
use Rattle.rand_pcg.specs.Lcg.{Lcg}
use Rattle.lucy_calls.specs.Laws.{IsStepOf}
use Rattle.lucy_net.specs.Draws.{generator_of}
use Rattle.lucy_make.specs.declared.steps.Script.{Script}
use Rattle.lucy_make.specs.Steps.{round, rounds, empty, made_steps}
use Rattle.lucy_make.proofs.Drawn.{round_more, round_end}
use Rattle.lucy_make.proofs.StepLemmas.{sends_few, made_steps_name_replicas}
use Rattle.lucy_make.proofs.steps.make_steps.Goals as goal

pub loop-round-preserved : goal.loop-round-preserved
loop-round-preserved c = record {
  made = round_more c.args.replicas c.args.rounds c.loop-round._round (c.loop-round.script, c.loop-round.chaos) (c.round.new.script, c.round.new.chaos)
      (rounds c.args.replicas c.args.rounds (empty, generator_of c.args.seed)) c.loop-round-test.true c.in_ok-round.ensures c.loop-round.invariant.made;
  few = (let same : c.round.new.script.sent ≡ (round c.args.replicas c.loop-round.script c.loop-round.chaos).0.sent = ap (λ (p : Script × Lcg). p.0.sent) c.in_ok-round.ensures in
      let more = sends_few c.args.replicas c.loop-round.script c.loop-round.chaos in omega (arith, same, more, c.loop-round.invariant.few));
}

pub returns-clause-made : goal.returns-clause-made
unfolding made_steps
returns-clause-made c =
    ap (λ (p : Script × Lcg). p.0.steps) (round_end c.args.replicas c.args.rounds c.loop-round._round (c.loop-round.script, c.loop-round.chaos) (rounds c.args.replicas c.args.rounds (empty, generator_of c.args.seed)) c.loop-round-test.false c.loop-round.invariant.made)

pub returns-clause-replicas : goal.returns-clause-replicas
returns-clause-replicas c =
    let limit : c.args.rounds < 2 ^ 32 = omega arith in
    subst (All (IsStepOf c.args.replicas)) (sym (returns-clause-made c)) (made_steps_name_replicas c.args.replicas c.args.seed c.args.rounds c.requires limit)
