use Rattle.std.proofs.Common.{◌∙◌, sym}
use Rattle.lucy_solver.specs.Shows.{clauses_of}
use Rattle.lucy_solver.proofs.Joining.{rup_first, rup_both}
use Rattle.lucy_solver.proofs.denials.join.Goals as goal

pub shown-requires-clause-hints : goal.shown-requires-clause-hints
shown-requires-clause-hints c =
    let known = sym c.is_known.ensures ∙ c.if-is_known.true in
    rw c.as_slice.ensures (rup_first (clauses_of c.args.formula.now c.args.steps.now.items) c.args.decisions.now c.args.atom.now c.args.left c.requires.left.there known)

pub shown-requires-else-is_known-clause-hints : goal.shown-requires-else-is_known-clause-hints
shown-requires-else-is_known-clause-hints c =
    let unknown = sym c.is_known.ensures ∙ c.if-is_known.false in
    rw c.as_slice-else-is_known.ensures (rup_both (clauses_of c.args.formula.now c.args.steps.now.items) c.args.decisions.now c.args.atom.now c.args.left c.args.right c.requires.left.there c.requires.right.there unknown)
