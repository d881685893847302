use Rattle.std.proofs.Common.{◌≡◌, ℕ, ◌+◌, ◌*◌, ◌≤◌, true, ℤ, List, refl, sym, ap, subst, ◌∙◌, arith}
use Rattle.std.specs.Prelude.{Ok}
use Rattle.lucy_plan.specs.declared.parts.PlanParts.{PlanParts}
use Rattle.lucy_walks.specs.Sketches.{tree_of, size}
use Rattle.lucy_session.specs.Labels.{all_fit}
use Rattle.lucy_session.specs.Evaluation.{evaluated}
use Rattle.lucy_session.specs.Sessions.{Dialogue}
use Rattle.lucy_session.specs.Views.{dialogue_of}
use Rattle.lucy_session.proofs.KeepingLemmas.{entry_put, label_reaches, same_if}
use Rattle.lucy_session.proofs.session.Session.reach.Goals as goal

pub invariant_of-self-2 : goal.invariant_of-self-2
invariant_of-self-2 c =
    let d = dialogue_of c.self.inside in
    let tree = tree_of c.args.sketch.now in
    let fit : all_fit d.plan tree ≡ true = subst (λ (x : Dialogue). all_fit x.plan tree ≡ true) (sym c.self.view_is) c.requires.fit in
    let few : size tree ≤ 10000 = omega (arith, c.requires.few) in
    entry_put d _ _ c.self.invariant c.in_ok-push.ensures.items
    (label_reaches d.plan tree c.args.state (c.in_ok-value.value, c.in_ok-value.field-0-1) _ c.self.invariant.start fit few
    (ap (λ (x : PlanParts). evaluated x tree 0) (sym c.deref.ensures) ∙ c.in_ok-value.ensures.value) (same_if c.in_ok-value.value c.args.state c.ne.result c.ne.ensures c.if-ne.false) refl
    c.in_ok-expr.ensures.tree)
