use Rattle.lucy_epochs.proofs.Seats.{none_sits}
use Rattle.lucy_epochs.proofs.collecting.Collect.new.Goals as goal

pub invariant_of-result : goal.invariant_of-result
invariant_of-result c = rw c.in_ok-seats.ensures (λ place part h. absurd (none_sits c.args.replicas place part h))
