use Rattle.std.proofs.Common.{◌≡◌, ◌<◌, ◌^◌, [], ◌∷◌, ◌++◌, ◌∙◌, map, ap, subst, length, rules}
use Rattle.lucy_clauses.specs.Sums.{Form, complement}
use Rattle.lucy_clauses.specs.Normal.{IsNormal}
use Rattle.lucy_solver.specs.Shows.{lemma_step, sum_line, atom_times}
use Rattle.lucy_solver.proofs.Refuting.{lemma_shown}
use Rattle.lucy_solver.proofs.Steps.{step_shown}
use Rattle.lucy_solver.proofs.leaves.refute_atom.Goals as goal

pub returns-clause-shown : goal.returns-clause-shown
returns-clause-shown c =
    let at : c.in-Ok.place ≡ length c.args.decisions.now = search rules in
    let small : c.in-Ok.place < 2 ^ 32 = search rules in
    let is : c.in_ok-clause.clause.atoms ≡ map complement (c.args.decisions.now ++ c.args.atom.now ∷ []) = c.in_ok-clause.ensures ∙ ap (map complement) (c.as_slice.ensures.value ∙ c.in_ok-more.ensures) in
    let parts : c.deref.result.now ≡ c.args.atom.now.parts = c.deref.ensures.value ∙ ap (λ (t : Form). t.parts) c.atom.view_is in
    let normal : IsNormal c.args.atom.now.parts = subst (λ (t : Form). IsNormal t.parts) c.atom.view_is c.atom.invariant in
    let times : c.in_ok-times.times.items ≡ atom_times c.in-Ok.place c.args.bounds.now c.args.atom.now.parts = c.in_ok-times.ensures ∙ ap (atom_times c.in-Ok.place c.args.bounds.now) parts in
    rw (c.in_ok-push_lemma.ensures, times) (lemma_shown c.args.formula.now c.args.steps.now.items c.args.decisions.now c.args.bounds.now c.args.atom.now c.in-Ok.place c.in_ok-clause.clause c.requires.shown c.requires.bounds c.requires.few c.requires.names normal c.requires.fit c.requires.exceeds small at is)

pub returns-clause-denied : goal.returns-clause-denied
returns-clause-denied c =
    let is : c.in_ok-clause.clause.atoms ≡ map complement (c.args.decisions.now ++ c.args.atom.now ∷ []) = c.in_ok-clause.ensures ∙ ap (map complement) (c.as_slice.ensures.value ∙ c.in_ok-more.ensures) in
    rw (c.in_ok-push_lemma.ensures, c.in_ok-number.ensures, c.as_slice-2.ensures.value) (step_shown c.args.formula.now c.args.steps.now.items (c.args.decisions.now ++ c.args.atom.now ∷ []) (lemma_step c.in_ok-clause.clause (sum_line c.in_ok-times.times.items ∷ [])) is)
