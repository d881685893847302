use Rattle.std.proofs.Common.{◌∷◌, []}
use Rattle.lucy_solver.proofs.Halving.{box_more}
use Rattle.lucy_solver.proofs.searching.decided_atoms.Goals as goal

pub returns-clause-bounds : goal.returns-clause-bounds
returns-clause-bounds c = rw c.in_ok-more.ensures.items (box_more c.args.formula.now.ranges c.args.decisions.now (c.args.atom.now ∷ []) c.args.bounds.now c.requires.bounds)
