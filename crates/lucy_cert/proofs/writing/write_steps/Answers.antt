use Rattle.lucy_cert.specs.Texts.{step_entries}
use Rattle.lucy_cert.proofs.TextLemmas.{one_more}
use Rattle.lucy_cert.proofs.writing.write_steps.Goals as goal

pub loop-step-preserved : goal.loop-step-preserved
loop-step-preserved c =
    one_more step_entries c.args.steps.now c.loop-step.step-index c.step-item.result _ _ _ c.loop-step-test.true c.step-item.is c.in_ok-write_step.ensures c.loop-step.invariant
