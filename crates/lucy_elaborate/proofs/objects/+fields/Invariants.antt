use Rattle.std.proofs.Common.{◌≡◌, drop}
use Rattle.std.specs.Prelude.{map}
use Rattle.lucy_gather.specs.Steps.{each}
use Rattle.lucy_elaborate.specs.Objects.{field_in}
use Rattle.lucy_elaborate.proofs.objects.+fields.Given as goal

abbrev pub invariant-fields_in-loop-field : goal.invariant-fields_in-loop-field
invariant-fields_in-loop-field l =
    each (λ field. field l.group) (map field_in (drop l.field-index l.fields)) l.scope ≡ each (λ field. field l.group) (map field_in l.fields) l.fn.scope
