use Rattle.std.proofs.Common.{◌≡◌, ◌≤◌, ◌^◌, true, length, ap, subst, sym, ◌∙◌, List}
use Rattle.lucy_clauses.specs.declared.parts.Part.{Part}
use Rattle.lucy_clauses.specs.Sums.{Form}
use Rattle.lucy_clauses.specs.Formulas.{weight_at, names_below}
use Rattle.lucy_clauses.proofs.Weights.{narrow_weight, narrow_names}
use Rattle.lucy_clauses.proofs.atoms.Atom.is_true.Goals as goal

pub sum_of-requires-clause-weight : goal.sum_of-requires-clause-weight
sum_of-requires-clause-weight c =
    let is = c.deref.ensures.value ∙ ap (λ (t : Form). t.parts) c.self.view_is in
    subst (λ (ps : List Part). weight_at c.args.assignment.now ps ≤ 2 ^ 101) (sym is) (narrow_weight c.args.ranges.now c.args.assignment.now c.args.self.now c.requires.narrow c.requires.within)

pub sum_of-requires-clause-names : goal.sum_of-requires-clause-names
sum_of-requires-clause-names c =
    let is = c.deref.ensures.value ∙ ap (λ (t : Form). t.parts) c.self.view_is in
    subst (λ (ps : List Part). names_below (length c.args.assignment.now) ps ≡ true) (sym is) (narrow_names c.args.ranges.now c.args.assignment.now c.args.self.now c.requires.narrow c.requires.within)
