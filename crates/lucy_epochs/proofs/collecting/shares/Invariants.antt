use Rattle.std.proofs.Common.{◌≡◌, ◌++◌, drop}
use Rattle.lucy_epochs.specs.Collections.{parts_of}
use Rattle.lucy_epochs.proofs.collecting.shares.Given as goal

abbrev pub invariant-loop-seat : goal.invariant-loop-seat
invariant-loop-seat l = l.list.items ++ parts_of (drop l.seat-index l.seats) ≡ parts_of l.seats
