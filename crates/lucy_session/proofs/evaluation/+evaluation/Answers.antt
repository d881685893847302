use Rattle.std.proofs.Common.{◌≡◌, ℤ, ℕ, List, rules, sym, ap, subst, ◌∙◌, arith}
use Rattle.std.specs.Arc.{arc_value}
use Rattle.lucy_io.specs.Outcomes.{Outcome, Answers}
use Rattle.lucy_plan.specs.declared.parts.PlanParts.{PlanParts}
use Rattle.lucy_walks.specs.declared.sketches.Sketch.{Sketch}
use Rattle.lucy_walks.specs.Sketches.{tree_of}
use Rattle.lucy_walks.proofs.EntryLemmas.{merged_length}
use Rattle.lucy_session.specs.declared.answers.LabelError.{LabelError}
use Rattle.lucy_session.specs.declared.answers.LabelError.TheVariants.{OutOfMemory}
use Rattle.lucy_session.specs.Evaluation.{evaluated, called_on, merged_on}
use Rattle.lucy_session.proofs.EvaluationLemmas.{evaluated-apply, evaluated-merge}
use Rattle.lucy_session.proofs.evaluation.+evaluation.Goals as goal

-- an answer to what is the same
told : {said same : Outcome LabelError (List ℤ × ℕ)} (result : Outcome LabelError (List ℤ × ℕ)) → said ≡ same
    → Answers OutOfMemory (λ (p : List ℤ × ℕ). p) same result → Answers OutOfMemory (λ (p : List ℤ × ℕ). p) said result
told result e h = subst (λ (said : Outcome LabelError (List ℤ × ℕ)). Answers OutOfMemory (λ (p : List ℤ × ℕ). p) said result) (sym e) h

pub value_of-returns-in-Apply-clause-value : goal.value_of-returns-in-Apply-clause-value
value_of-returns-in-Apply-clause-value t c =
    told _
    (ap (λ (s : Sketch). evaluated c.args.plan.now (tree_of s) c.args.number) c.in-Apply.is
    ∙ evaluated-apply c.args.plan.now _ _ _ _
    ∙ ap (λ (s : Sketch). called_on c.args.plan.now c.in-Apply.call (tree_of s) c.args.number) (sym c.deref.ensures))
    c.value_of_call.ensures.value

pub value_of-returns-in-Merge-clause-value : goal.value_of-returns-in-Merge-clause-value
value_of-returns-in-Merge-clause-value t c =
    told _
    (ap (λ (s : Sketch). evaluated c.args.plan.now (tree_of s) c.args.number) c.in-Merge.is
    ∙ evaluated-merge c.args.plan.now _ _ _
    ∙ ap (λ (s : Sketch). merged_on c.args.plan.now (tree_of s) (tree_of (arc_value c.in-Merge.right)) c.args.number) (sym c.deref-in-Merge.ensures)
    ∙ ap (λ (s : Sketch). merged_on c.args.plan.now (tree_of c.deref-in-Merge.result.now) (tree_of s) c.args.number) (sym c.deref-in-Merge-2.ensures))
    c.value_of_merge.ensures.value

pub value_of_merge-returns-clause-even : goal.value_of_merge-returns-clause-even
value_of_merge-returns-clause-even t c = search (rules, merged_length)
