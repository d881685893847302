use Rattle.std.proofs.Common.{◌≡◌, ◌++◌, drop, map}
use Rattle.lucy_normal.specs.Shapes.{shape, lits}
use Rattle.lucy_normal.proofs.placing.literals.Given as goal

abbrev pub invariant-loop-part : goal.invariant-loop-part
invariant-loop-part l = l.fn.before ++ lits (map shape l.parts) l.first ≡ l.atoms ++ lits (map shape (drop l.part-index l.parts)) l.name
