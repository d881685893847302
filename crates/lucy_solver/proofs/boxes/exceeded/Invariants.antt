use Rattle.std.proofs.Common.{◌≡◌, true, drop}
use Rattle.std.specs.List.{list_any}
use Rattle.lucy_solver.specs.Boxes.{all_exceed, all_fit}
use Rattle.lucy_solver.proofs.boxes.exceeded.Given as goal

abbrev pub invariant-loop-i : goal.invariant-loop-i
invariant-loop-i l =
    (list_any (all_exceed l.bounds) l.clauses ≡ list_any (all_exceed l.bounds) (drop l.i l.clauses)) × (all_fit l.bounds (drop l.i l.clauses) ≡ true)
