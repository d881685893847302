-- The transactions of what a session shows have names.
use Rattle.std.proofs.Common.{◌≡◌, ℕ, ◌+◌, ◌-◌, ◌<◌, true, false, List, [], ◌∷◌, ◌++◌, length, Option, Some, None, refl, sym, ap, subst, arith, Bor}
use Rattle.std.specs.Prelude.{All, IsTrue}
use Rattle.std.specs.Prelude.{ℤ, slice_get, IfSome}
use Rattle.std.proofs.lemmas.List.Elements.{All-nil, All-cons, All-head, All-tail}
use Rattle.lucy_expr.specs.Trees.{Tree, Start, Apply, Merge}
use Rattle.lucy_expr.specs.Reachability.{IsReached}
use Rattle.lucy_names.specs.Plans.{AreNamesOf}
use Rattle.lucy_names.specs.declared.names.Names.{Names}
use Rattle.lucy_plan.specs.Calls.{Fits, takes}
use Rattle.lucy_plan.specs.declared.parts.Call.{Call}
use Rattle.lucy_plan.specs.declared.parts.PlanParts.{PlanParts}
use Rattle.lucy_plan.specs.declared.parts.Txn.{Txn}
use Rattle.lucy_report.specs.ExpressionTexts.{IsNamed}
use Rattle.std.proofs.lemmas.List.{length-map}
use Rattle.std.proofs.lemmas.Option.{slice_get_within}
use Rattle.lucy_expr.specs.Expressions.{Expression}
use Rattle.lucy_session.specs.Keeping.{Reaches}
use Rattle.std.specs.Option.{option_map, option_copied}
use Rattle.lucy_session.specs.Sessions.{Dialogue, Searches, found_for, entries_of, roomy, reached_by}
use Rattle.lucy_session.specs.declared.reached.Pair.{Pair}

there : (txn : Option Txn) (arguments : List ℤ) → IsTrue (takes txn arguments) → (found : Txn) × (txn ≡ Some found)
there None arguments is = absurd (let lost : false ≡ true = is in cc)
there (Some found) arguments is = (found, refl)

within : (plan : PlanParts) (call : Call) → Fits plan call → call.txn < length plan.txns
within plan call fits = let found = there (slice_get plan.txns call.txn) call.arguments fits in slice_get_within plan.txns call.txn found.0 found.1

-- the transactions of an expression that is reached have names
pub reached_named : (plan : PlanParts) (names : Names) (tree : Tree) → AreNamesOf plan names → IsReached plan tree → IsNamed names.txns tree
reached_named plan names Start are reached = tt
reached_named plan names (Apply id call inner) are reached =
    (omega (arith, within plan call reached.1, ap (λ (ns : List (List ℕ)). length ns) are.txns, length-map plan.txns (λ (txn : Txn). txn.name)), reached_named plan names inner are reached.0)
reached_named plan names (Merge left right) are reached = (reached_named plan names left are reached.0, reached_named plan names right are reached.1)

all_back : {X : Type 0} (P : X → Type 0) (xs ys : List X) → All P (xs ++ ys) → All P ys
all_back P [] ys all = all
all_back P (x ∷ xs) ys all = all_back P xs ys (All-tail P x (xs ++ ys) all)

all_front : {X : Type 0} (P : X → Type 0) (xs ys : List X) → All P (xs ++ ys) → All P xs
all_front P [] ys all = All-nil P
all_front P (x ∷ xs) ys all = All-cons P x xs (All-head P x (xs ++ ys) all) (all_front P xs ys (All-tail P x (xs ++ ys) all))

found_named : (plan : PlanParts) (names : Names) (state : List ℤ) (found : Option Tree) → AreNamesOf plan names → All (Reaches plan) (entries_of state found)
    → IfSome (option_map roomy found) (λ x. IsNamed names.txns x.tree)
found_named plan names state None are all = tt
found_named plan names state (Some tree) are all = reached_named plan names tree are (All-head (Reaches plan) (reached_by state tree) [] all).reached

-- the transactions of what a walk finds have names
pub walk_named : (d e : Dialogue) (seed rounds : ℕ) (pair : Option Pair) (found : Option Expression × Option Expression) → Searches d seed rounds pair found e → AreNamesOf e.plan e.names
    → All (Reaches e.plan) e.reached → IfSome found.0 (λ x. IsNamed e.names.txns x.tree) × IfSome found.1 (λ x. IsNamed e.names.txns x.tree)
walk_named d e seed rounds None found searches are all = rw searches.0 (tt, tt)
walk_named d e seed rounds (Some p) found searches are all =
    let left = entries_of p.left (found_for d seed rounds p.left) in
    let right = entries_of p.right (found_for d seed rounds p.right) in
    let same : e.reached ≡ d.reached ++ left ++ right = ap (λ (x : Dialogue). x.reached) searches.1 in
    let each = subst (All (Reaches e.plan)) same all in
    rw searches.0 (
      found_named e.plan e.names p.left (found_for d seed rounds p.left) are (all_back (Reaches e.plan) d.reached left (all_front (Reaches e.plan) (d.reached ++ left) right each)),
      found_named e.plan e.names p.right (found_for d seed rounds p.right) are (all_back (Reaches e.plan) (d.reached ++ left) right each),
    )

pub ref_named : (names : List (List ℕ)) (o : Option (Bor Expression)) (v : Option Expression) → option_copied o ≡ v → IfSome v (λ x. IsNamed names x.tree) → IfSome o (λ b. IsNamed names b.now.tree)
ref_named names None v is h = tt
ref_named names (Some b) v is h = subst (λ (w : Option Expression). IfSome w (λ x. IsNamed names x.tree)) (sym is) h
