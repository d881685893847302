use Rattle.std.proofs.Common.{List, [], ◌∷◌, ◌++◌, sym, ap, ◌∙◌}
use Rattle.std.specs.Prelude.{option_map, Some}
use Rattle.lucy_expr.specs.Trees.{Tree}
use Rattle.lucy_walks.specs.Sketches.{named}
use Rattle.lucy_walks.specs.declared.entries.Entry.{Entry}
use Rattle.lucy_walks.proofs.WalkLemmas.{stays, grows, ends, begins, lent}
use Rattle.lucy_walks.proofs.walking.walk_on.Goals as goal
use Rattle.lucy_walks.proofs.walking.walk_on.Goals.{in-Some+else-is_goal+in_ok-push-2, in_default}

pub loop-round-init : goal.loop-round-init
loop-round-init c = begins _ _ _ _ _ _ c.requires.first (c.in_ok-push.ensures.items ∙ ap (λ (es : List Entry). es ++ c.args.first ∷ []) c.new-pool.ensures.items)

pub returns-then-is_goal-clause-walk : goal.returns-then-is_goal-clause-walk
returns-then-is_goal-clause-walk c =
    ap (λ (t : Tree). Some t) c.in_ok-expr.ensures.tree
    ∙ ap (option_map named) (ends c.in_ok-entry.field-0 c.in-Some.entry c.is_goal.result (lent c.as_slice.result.now c.as_slice.ensures.value c.loop-round.invariant) c.loop-round-test.true c.in_ok-entry.ensures.offer c.in-Some.is c.is_goal.ensures.test c.if-is_goal.true)

pub loop-round-preserved : goal.loop-round-preserved
loop-round-preserved c =
    elim c.match-branch-3.branch [
      | in-Some+else-is_goal+in_ok-push-2 w ↦
          grows c.in_ok-entry.field-0 w.in-Some.entry w.is_goal.result _ _ (lent c.as_slice.result.now c.as_slice.ensures.value c.loop-round.invariant) c.loop-round-test.true c.in_ok-entry.ensures.offer w.in-Some.is w.is_goal.ensures.test w.if-is_goal.false c.in_ok-entry.ensures.chaos
          (ap (λ v. v.items) w.pool-is ∙ w.in_ok-push-2.ensures.items ∙ ap (λ (es : List Entry). es ++ w.in-Some.entry ∷ []) (sym c.as_slice.ensures.value))
      | in_default w ↦
          stays c.in_ok-entry.field-0 _ _ (lent c.as_slice.result.now c.as_slice.ensures.value c.loop-round.invariant) c.loop-round-test.true c.in_ok-entry.ensures.offer w.in_default.is c.in_ok-entry.ensures.chaos
          (ap (λ v. v.items) w.pool-is ∙ sym c.as_slice.ensures.value)
    ]
