use Rattle.std.proofs.Common.{max, ap, ◌∙◌}
use Rattle.lucy_trim.proofs.Counts.{counted_most, begun, ended, turned}
use Rattle.lucy_trim.proofs.counting.most_live.Goals as goal

pub loop-step-init : goal.loop-step-init
loop-step-init c = begun c.args.proof.now.steps c.as_slice-step-items.result.now c.as_slice-step-items.ensures

pub loop-step-preserved : goal.loop-step-preserved
loop-step-preserved c =
    turned c.as_slice-step-items.result.now c.loop-step.step-index c.step-item.result c.loop-step.counts.added c.loop-step.counts.dropped c.in_ok-counts.counts.added c.in_ok-counts.counts.dropped c.loop-step.most c.max-most.result
    (counted_most 0 0 c.args.proof.now.steps) c.loop-step-test.true c.step-item.is c.in_ok-counts.ensures.added c.in_ok-counts.ensures.dropped (c.max-most.ensures ∙ ap (λ n. max n c.loop-step.most) c.saturating_sub.ensures) c.loop-step.invariant

pub returns : goal.returns
returns c = ended c.args.proof.now.steps c.as_slice-step-items.result.now c.loop-step.step-index c.loop-step.counts.added c.loop-step.counts.dropped c.loop-step.most c.as_slice-step-items.ensures c.loop-step-test.false c.loop-step.invariant
