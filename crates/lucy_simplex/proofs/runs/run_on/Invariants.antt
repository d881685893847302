use Rattle.std.proofs.Common.{List}
use Rattle.lucy_simplex.specs.Tableaus.{Equation}
use Rattle.lucy_simplex.specs.Reading.{HasShape}
use Rattle.lucy_simplex.specs.Ends.{HasRun}
use Rattle.lucy_simplex.proofs.runs.run_on.Given as goal

abbrev pub invariant-loop-made : goal.invariant-loop-made
invariant-loop-made l = record {
  shape : HasShape l.width l.lines.items;
  runs : (first : List Equation) → HasRun first 1 l.fn.begun.items → HasRun first l.made l.lines.items;
}
