use Rattle.std.proofs.Common.{◌≡◌, ◌++◌, [], drop, reverse}
use Rattle.lucy_report.specs.ExpressionSteps.{text_on}
use Rattle.lucy_report.proofs.expression_lines.write_turns.Given as goal

abbrev pub invariant-loop-turn : goal.invariant-loop-turn
invariant-loop-turn l = l.out.items ++ text_on l.names.txns (reverse l.pending.items) (drop l.turn-index l.turns) ≡ l.fn.out.items ++ text_on l.names.txns [] l.turns
