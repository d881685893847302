use Rattle.std.proofs.Common.{◌≡◌, true, drop}
use Rattle.std.specs.List.{list_all}
use Rattle.lucy_solver.specs.Boxes.{all_exceed, exceeds, is_fit}
use Rattle.lucy_solver.proofs.boxes.all_exceed.Given as goal

abbrev pub invariant-loop-atom : goal.invariant-loop-atom
invariant-loop-atom l =
    (all_exceed l.bounds l.clause ≡ list_all (exceeds l.bounds) (drop l.atom-index l.atom-items)) × (list_all (is_fit l.bounds) (drop l.atom-index l.atom-items) ≡ true)
