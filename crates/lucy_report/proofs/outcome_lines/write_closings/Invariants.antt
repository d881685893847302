use Rattle.std.proofs.Common.{◌≡◌, ◌++◌, drop, map}
use Rattle.std.specs.Arc.{arc_value}
use Rattle.lucy_report.specs.WorldTexts.{record_lines}
use Rattle.lucy_report.proofs.outcome_lines.write_closings.Given as goal

abbrev pub invariant-loop-closing : goal.invariant-loop-closing
invariant-loop-closing l =
    l.out.items ++ record_lines l.names.segments (map (λ c. arc_value c.epoch) (drop l.closing-index l.closings)) ≡ l.fn.out.items ++ record_lines l.names.segments (map (λ c. arc_value c.epoch) l.closings)
