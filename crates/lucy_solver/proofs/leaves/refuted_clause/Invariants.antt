use Rattle.std.proofs.Common.{◌≡◌, true, take, drop}
use Rattle.std.specs.List.{list_all}
use Rattle.lucy_solver.specs.Boxes.{exceeds, is_fit}
use Rattle.lucy_solver.specs.Leads.{Leading}
use Rattle.lucy_solver.proofs.leaves.refuted_clause.Given as goal

abbrev pub invariant-loop-atom : goal.invariant-loop-atom
invariant-loop-atom l =
    Leading l.formula l.decisions l.fn.steps.items l.steps.items l.hints.items l.trues.items (take l.atom-index l.atom-items) × (list_all (is_fit l.bounds) (drop l.atom-index l.atom-items) ≡ true) × (list_all (exceeds l.bounds) (drop l.atom-index l.atom-items) ≡ true)
