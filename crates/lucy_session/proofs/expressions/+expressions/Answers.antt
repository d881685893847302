use Rattle.std.proofs.Common.{◌≡◌, ℕ, ◌+◌, List, length, rules, sym, ap, subst, ◌∙◌, arith}
use Rattle.std.specs.Prelude.{Result, IfOk}
use Rattle.lucy_plan.specs.declared.parts.PlanParts.{PlanParts}
use Rattle.lucy_walks.specs.declared.sketches.Sketch.{Sketch}
use Rattle.lucy_walks.specs.Sketches.{tree_of}
use Rattle.lucy_session.specs.declared.answers.LabelError.{LabelError}
use Rattle.lucy_session.specs.Labels.{IsRead}
use Rattle.lucy_session.proofs.expressions.+expressions.Goals as goal

-- so many bytes were left before
from : (plan : PlanParts) (m n after : ℕ) (result : Result Sketch LabelError) → m ≡ n
    → IfOk result (λ (s : Sketch). IsRead plan m after (tree_of s)) → IfOk result (λ (s : Sketch). IsRead plan n after (tree_of s))
from plan m n after result e h = subst (λ (k : ℕ). IfOk result (λ (s : Sketch). IsRead plan k after (tree_of s))) e h

pub read_expr-returns-then-eat-2-clause-sketch : goal.read_expr-returns-then-eat-2-clause-sketch
read_expr-returns-then-eat-2-clause-sketch t c = from _ _ _ _ _ (search (rules, arith)) c.read_apply.ensures.sketch

pub read_expr-returns-then-eat-3-clause-sketch : goal.read_expr-returns-then-eat-3-clause-sketch
read_expr-returns-then-eat-3-clause-sketch t c = from _ _ _ _ _ (search (rules, arith)) c.read_merge.ensures.sketch
