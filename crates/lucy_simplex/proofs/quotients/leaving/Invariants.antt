use Rattle.std.proofs.Common.{List}
use Rattle.lucy_simplex.specs.Tableaus.{Equation}
use Rattle.lucy_simplex.specs.Reading.{AreRead}
use Rattle.lucy_simplex.specs.Choices.{fall, IsBest}
use Rattle.lucy_simplex.proofs.quotients.leaving.Given as goal

abbrev pub invariant-loop-i : goal.invariant-loop-i
invariant-loop-i l = (qs : List Equation) → AreRead qs l.lines → IsBest (fall l.entering) qs l.i l.least
