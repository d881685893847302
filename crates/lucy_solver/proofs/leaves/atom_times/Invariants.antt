use Rattle.std.proofs.Common.{◌≡◌, true, drop, ◌++◌}
use Rattle.lucy_clauses.specs.Parts.{all_within}
use Rattle.lucy_solver.specs.Boxes.{takings}
use Rattle.lucy_solver.specs.Shows.{atom_times}
use Rattle.lucy_solver.proofs.leaves.atom_times.Given as goal

abbrev pub invariant-loop-part : goal.invariant-loop-part
invariant-loop-part l =
    (l.times.items ++ takings l.bounds (drop l.part-index l.parts) ≡ atom_times l.place l.bounds l.parts) × (all_within (drop l.part-index l.parts) ≡ true)
