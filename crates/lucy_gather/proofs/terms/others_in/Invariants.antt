use Rattle.std.proofs.Common.{◌≡◌, drop}
use Rattle.lucy_gather.specs.Steps.{each}
use Rattle.lucy_gather.specs.Terms.{added_in}
use Rattle.lucy_gather.proofs.terms.others_in.Given as goal

abbrev pub invariant-loop-added : goal.invariant-loop-added
invariant-loop-added l =
    each (added_in l.scope l.params l.is_right) (drop l.added-index l.others) l.gathered ≡ each (added_in l.scope l.params l.is_right) l.others l.fn.gathered
