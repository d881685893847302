use Rattle.std.proofs.Common.{◌++◌}
use Rattle.lucy_tree.specs.Spelling.{field_words}
use Rattle.lucy_print.specs.Layout.{texts}
use Rattle.lucy_print.proofs.Lists.{Writing}
use Rattle.lucy_print.proofs.objects.+fields.Given as goal

abbrev pub invariant-put_fields-loop-field : goal.invariant-put_fields-loop-field
invariant-put_fields-loop-field l = Writing field_words l.fields l.field-index l.out.items (l.fn.out.items ++ texts field_words l.fields)
