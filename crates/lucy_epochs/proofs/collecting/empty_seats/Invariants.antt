use Rattle.std.proofs.Common.{◌≡◌, replicate, None}
use Rattle.lucy_epochs.proofs.collecting.empty_seats.Given as goal

abbrev pub invariant-loop : goal.invariant-loop
invariant-loop l = l.seats.items ≡ replicate l.counter None
