-- What names change in an expression, and what they leave.
use Rattle.std.proofs.Common.{◌≡◌, ℕ, ◌+◌, ◌≤◌, ℤ, List, refl, ap, sym, subst, ◌∙◌}
use Rattle.lucy_model.specs.Merging.{merged}
use Rattle.lucy_plan.specs.Calls.{applied}
use Rattle.lucy_plan.specs.Segments.{IsWhole}
use Rattle.lucy_plan.specs.declared.parts.PlanParts.{PlanParts}
use Rattle.lucy_expr.specs.Trees.{Tree, Start, Apply, Merge, value}
use Rattle.lucy_expr.specs.Reachability.{IsReached}
use Rattle.std.specs.Prelude.{replicate}
use Rattle.lucy_walks.specs.Sketches.{size, named_on, named, most_replicas}
use Rattle.lucy_walks.specs.Walks.{most_nodes}
use Rattle.lucy_walks.specs.Laws.{Meets}

-- the value stays
pub value-named : (plan : PlanParts) (opening : List ℤ) (counts : List ℕ) (tree : Tree) → value plan opening (named_on counts tree).0 ≡ value plan opening tree
value-named plan opening counts Start = refl
value-named plan opening counts (Apply id call inner) = ap (applied plan call) (value-named plan opening counts inner)
value-named plan opening counts (Merge left right) =
    ap (λ (x : List ℤ). merged plan.object x (value plan opening (named_on (named_on counts left).1 right).0)) (value-named plan opening counts left)
    ∙ ap (merged plan.object (value plan opening left)) (value-named plan opening (named_on counts left).1 right)

-- the number of nodes stays
pub size-named : (counts : List ℕ) (tree : Tree) → size (named_on counts tree).0 ≡ size tree
size-named counts Start = refl
size-named counts (Apply id call inner) = ap (λ n. n + 1) (size-named counts inner)
size-named counts (Merge left right) =
    ap (λ n. n + size (named_on (named_on counts left).1 right).0 + 1) (size-named counts left)
    ∙ ap (λ n. size left + n + 1) (size-named (named_on counts left).1 right)

-- what is reached stays reached
pub reached-named : (plan : PlanParts) (counts : List ℕ) (tree : Tree) → IsReached plan tree → IsReached plan (named_on counts tree).0
reached-named plan counts Start h = h
reached-named plan counts (Apply id call inner) h =
    (reached-named plan counts inner h.0, h.1, subst (λ (x : List ℤ). IsWhole plan (applied plan call x)) (sym (value-named plan plan.start counts inner)) h.2)
reached-named plan counts (Merge left right) h = (reached-named plan counts left h.0, reached-named plan (named_on counts left).1 right h.1)

-- an expression with names meets what it meets without them
pub named_meets : (plan : PlanParts) (goal : List ℤ) (tree : Tree) → IsReached plan tree → value plan plan.start tree ≡ goal → size tree ≤ most_nodes → Meets plan goal (named tree)
named_meets plan goal tree reached gives few =
    record {
      reached = reached-named plan (replicate most_replicas 0) tree reached;
      value_is = value-named plan plan.start (replicate most_replicas 0) tree ∙ gives;
      few = subst (λ n. n ≤ most_nodes) (sym (size-named (replicate most_replicas 0) tree)) few;
    }
