use Rattle.std.proofs.Common.{◌≡◌, drop}
use Rattle.lucy_gather.specs.Steps.{each}
use Rattle.lucy_elaborate.specs.Objects.{atom_field}
use Rattle.lucy_elaborate.proofs.objects.atom_fields.Given as goal

abbrev pub invariant-loop-atom : goal.invariant-loop-atom
invariant-loop-atom l = each (atom_field l.group) (drop l.atom-index l.atoms) l.scope ≡ each (atom_field l.group) l.atoms l.fn.scope
