use Rattle.std.proofs.Common.{◌≡◌, List, map, take, length}
use Rattle.lucy_simplex.specs.Tableaus.{Equation, eliminated}
use Rattle.lucy_simplex.specs.Reading.{Reads, AreRead}
use Rattle.lucy_simplex.proofs.pivoting.swept.Given as goal

abbrev pub invariant-loop-i : goal.invariant-loop-i
invariant-loop-i l = record {
  count : length l.all.items ≡ l.i;
  reads : (qs : List Equation) (s : Equation) → AreRead qs l.lines → Reads s l.by → AreRead (take l.i (map (eliminated s l.entering) qs)) l.all.items;
}
