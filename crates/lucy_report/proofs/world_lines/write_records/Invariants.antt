use Rattle.std.proofs.Common.{◌≡◌, ◌++◌, drop, map}
use Rattle.std.specs.Arc.{arc_value}
use Rattle.lucy_report.specs.WorldTexts.{record_lines}
use Rattle.lucy_report.proofs.world_lines.write_records.Given as goal

abbrev pub invariant-loop-epoch : goal.invariant-loop-epoch
invariant-loop-epoch l = l.out.items ++ record_lines l.names.segments (map arc_value (drop l.epoch-index l.epochs)) ≡ l.fn.out.items ++ record_lines l.names.segments (map arc_value l.epochs)
