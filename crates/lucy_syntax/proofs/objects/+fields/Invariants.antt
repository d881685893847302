use Rattle.std.proofs.Common.{◌+◌, ◌*◌}
use Rattle.lucy_syntax.specs.Input.{ahead}
use Rattle.lucy_syntax.specs.Lists.{alone}
use Rattle.lucy_syntax.specs.Objects.{field_words, field, fields_in, inner_fields}
use Rattle.lucy_syntax.proofs.Turns.{Turning}
use Rattle.lucy_syntax.proofs.objects.+fields.Given as goal

abbrev pub decreases-pair_field : goal.decreases-pair_field
decreases-pair_field l = 4 * l.depth + 0

abbrev pub decreases-field : goal.decreases-field
decreases-field l = 4 * l.depth + 1

abbrev pub decreases-fields : goal.decreases-fields
decreases-fields l = 4 * l.depth + 2

abbrev pub invariant-fields-loop-turn : goal.invariant-fields-loop-turn
invariant-fields-loop-turn l = Turning (ahead field_words) alone (field l.depth) l._turn-end l._turn l.found l.cursor (fields_in l.depth (inner_fields l.depth) l.fn.cursor)
