use Rattle.std.proofs.Common.{◌≡◌, ◌++◌, length, reverse}
use Rattle.lucy_report.specs.ExpressionSteps.{closing, still_open}
use Rattle.lucy_report.proofs.expression_lines.write_closing.Given as goal

abbrev pub invariant-loop-innermost : goal.invariant-loop-innermost
invariant-loop-innermost l = record {
  text : l.out.items ++ closing (reverse l.pending.items) ≡ l.fn.out.items ++ closing (reverse l.fn.pending.items);
  pending : still_open (reverse l.pending.items) ≡ still_open (reverse l.fn.pending.items);
}

abbrev pub decreases-loop-innermost : goal.decreases-loop-innermost
decreases-loop-innermost l = length l.pending.items
