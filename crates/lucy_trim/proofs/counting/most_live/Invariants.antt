use Rattle.std.proofs.Common.{◌≡◌, max, drop}
use Rattle.lucy_trim.proofs.Counts.{counted_most}
use Rattle.lucy_trim.proofs.counting.most_live.Given as goal

abbrev pub invariant-loop-step : goal.invariant-loop-step
invariant-loop-step l = max l.most (counted_most l.counts.added l.counts.dropped (drop l.step-index l.step-items)) ≡ counted_most 0 0 l.proof.steps
