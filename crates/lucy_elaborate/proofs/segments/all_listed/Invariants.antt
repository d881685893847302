use Rattle.std.proofs.Common.{◌≡◌, drop}
use Rattle.lucy_gather.specs.Steps.{each}
use Rattle.lucy_elaborate.specs.Segments.{listed_in}
use Rattle.lucy_elaborate.proofs.segments.all_listed.Given as goal

abbrev pub invariant-loop-name : goal.invariant-loop-name
invariant-loop-name l = each (listed_in l.txns) (drop l.name-index l.names) l.found ≡ each (listed_in l.txns) l.names l.fn.found
