use Rattle.std.proofs.Common.{◌≡◌, drop}
use Rattle.lucy_gather.specs.Steps.{each}
use Rattle.lucy_elaborate.specs.Starts.{member_value}
use Rattle.lucy_elaborate.proofs.starts.member_values.Given as goal

abbrev pub invariant-loop-atom : goal.invariant-loop-atom
invariant-loop-atom l = each (member_value l.scope l.group) (drop l.atom-index l.atoms) l.started ≡ each (member_value l.scope l.group) l.atoms l.fn.started
