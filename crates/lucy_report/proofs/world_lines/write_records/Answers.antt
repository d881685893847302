use Rattle.std.proofs.Common.{◌<◌, length, rules}
use Rattle.std.specs.Arc.{arc_value}
use Rattle.lucy_report.proofs.Named.{named_at}
use Rattle.lucy_report.proofs.world_lines.write_records.Goals as goal

pub write_record-requires : goal.write_record-requires
write_record-requires c =
    let within : c.loop-epoch.epoch-index < length c.args.epochs.now = search rules in
    let named = named_at arc_value c.args.names.now.segments c.args.epochs.now c.loop-epoch.epoch-index c.epoch-item.result c.requires within c.epoch-item.is in
    rw c.deref.ensures named
