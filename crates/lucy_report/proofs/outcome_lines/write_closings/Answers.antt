use Rattle.std.proofs.Common.{◌<◌, length, rules}
use Rattle.std.specs.Arc.{arc_value}
use Rattle.lucy_report.proofs.Named.{named_at}
use Rattle.lucy_report.proofs.outcome_lines.write_closings.Goals as goal

pub write_record-requires : goal.write_record-requires
write_record-requires c =
    let within : c.loop-closing.closing-index < length c.args.closings.now = search rules in
    let named = named_at (λ (closing : _). arc_value closing.epoch) c.args.names.now.segments c.args.closings.now c.loop-closing.closing-index c.closing-item.result c.requires within c.closing-item.is in
    rw c.deref.ensures named
