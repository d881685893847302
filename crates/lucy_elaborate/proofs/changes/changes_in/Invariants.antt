use Rattle.std.proofs.Common.{◌≡◌, drop}
use Rattle.lucy_gather.specs.Steps.{each}
use Rattle.lucy_elaborate.specs.Changes.{change_in}
use Rattle.lucy_elaborate.proofs.changes.changes_in.Given as goal

abbrev pub invariant-loop-change : goal.invariant-loop-change
invariant-loop-change l = each (change_in l.scope l.params) (drop l.change-index l.changes) l.sets ≡ each (change_in l.scope l.params) l.changes l.fn.sets
