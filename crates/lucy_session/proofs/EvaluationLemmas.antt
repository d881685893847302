-- The evaluation of an expression, a call after the other.
use Rattle.std.proofs.Common.{◌≡◌, ℕ, suc, ◌+◌, Bool, true, false, not, cond, if◌then◌else◌, ℤ, List, [], ◌∷◌, ◌++◌, length, refl, ap, sym, subst, ◌∙◌, arith, length-append}
use Rattle.std.specs.Prelude.{Option, Some, None, Ok, Err}
use Rattle.std.specs.List.{position_from}
use Rattle.std.specs.Option.{option_or}
use Rattle.lucy_io.specs.Outcomes.{Outcome, ◌>>=◌}
use Rattle.std.proofs.lemmas.Bool.{and_parts}
use Rattle.lucy_plan.specs.Calls.{applied, call_fits}
use Rattle.lucy_plan.specs.Segments.{is_whole, IsWhole}
use Rattle.lucy_plan.specs.declared.parts.Call.{Call}
use Rattle.lucy_plan.specs.declared.parts.PlanParts.{PlanParts}
use Rattle.lucy_model.specs.Merging.{merged}
use Rattle.lucy_expr.specs.declared.ids.Id.{Id}
use Rattle.lucy_expr.specs.Trees.{Tree, Start, Apply, Merge, value}
use Rattle.lucy_expr.specs.Reachability.{IsReached}
use Rattle.lucy_session.specs.Labels.{all_fit}
use Rattle.lucy_session.specs.declared.answers.LabelError.{LabelError}
use Rattle.lucy_session.specs.declared.answers.LabelError.TheVariants.{NotReached}
use Rattle.lucy_session.specs.Evaluation.{applies, breaks, first_broken, or_value, evaluated, called, called_on, joined, merged_on}

plus_none : (i : ℕ) → i ≡ i + 0
plus_none i = omega arith

plus_one : (i n : ℕ) → i + 1 + n ≡ i + suc n
plus_one i n = omega arith

-- the first place in a list is in its front, or else in its rest
at_head : {A : Type 0} (test : A → Bool) (i : ℕ) (x : A) (xs ys : List A) (b : Bool)
    → position_from test (i + 1) (xs ++ ys) ≡ option_or (position_from test (i + 1) xs) (position_from test (i + length (x ∷ xs)) ys)
    → cond b (Some i) (position_from test (i + 1) (xs ++ ys)) ≡ option_or (cond b (Some i) (position_from test (i + 1) xs)) (position_from test (i + length (x ∷ xs)) ys)
at_head test i x xs ys true h = refl
at_head test i x xs ys false h = h

first-append : {A : Type 0} (test : A → Bool) (i : ℕ) (xs ys : List A)
    → position_from test i (xs ++ ys) ≡ option_or (position_from test i xs) (position_from test (i + length xs) ys)
first-append {A} test i [] ys = ap (λ n. position_from test n ys) (plus_none i)
first-append test i (x ∷ xs) ys =
    at_head test i x xs ys (test x) (first-append test (i + 1) xs ys ∙ ap (λ n. option_or (position_from test (i + 1) xs) (position_from test n ys)) (plus_one i (length xs)))

-- a call behind those of what it is applied to
last_call : (plan : PlanParts) (id : Id) (call : Call) (inner : Tree) (n m : ℕ) (b : Bool) → m ≡ n + 1
    → or_value plan (Apply id call inner) m (cond (not b) (Some n) None)
    ≡ (if b then Ok (applied plan call (value plan plan.start inner), n + 1) else Err (NotReached n))
last_call plan id call inner n m true e = ap (λ k. Ok (applied plan call (value plan plan.start inner), k)) e
last_call plan id call inner n m false e = refl

apply_case : (plan : PlanParts) (id : Id) (call : Call) (inner : Tree) (n m : ℕ) (found : Option ℕ) → m ≡ n + 1
    → or_value plan (Apply id call inner) m (option_or found (position_from (breaks plan) n (Apply id call inner ∷ [])))
    ≡ (or_value plan inner n found >>= λ p. called plan call p.0 p.1)
apply_case plan id call inner n m (Some at) e = refl
apply_case plan id call inner n m None e = last_call plan id call inner n m (is_whole plan (applied plan call (value plan plan.start inner))) e

pub evaluated-apply : (plan : PlanParts) (id : Id) (call : Call) (inner : Tree) (before : ℕ)
    → evaluated plan (Apply id call inner) before ≡ called_on plan call inner before
unfolding evaluated
evaluated-apply plan id call inner before =
    let outer = Apply id call inner in
    let e : before + length (applies inner ++ outer ∷ []) ≡ before + length (applies inner) + 1 = omega (arith, length-append (applies inner) (outer ∷ [])) in
    ap (or_value plan outer (before + length (applies inner ++ outer ∷ []))) (first-append (breaks plan) before (applies inner) (outer ∷ []))
    ∙ apply_case plan id call inner (before + length (applies inner)) (before + length (applies inner ++ outer ∷ [])) (position_from (breaks plan) before (applies inner)) e

merge_right : (plan : PlanParts) (left right : Tree) (n m : ℕ) (found : Option ℕ) → m ≡ n
    → or_value plan (Merge left right) m found ≡ (or_value plan right n found >>= joined plan (value plan plan.start left))
merge_right plan left right n m (Some at) e = refl
merge_right plan left right n m None e = ap (λ k. Ok (merged plan.object (value plan plan.start left) (value plan plan.start right), k)) e

merge_case : (plan : PlanParts) (left right : Tree) (n m : ℕ) (found : Option ℕ) → m ≡ n + length (applies right)
    → or_value plan (Merge left right) m (option_or found (position_from (breaks plan) n (applies right)))
    ≡ (or_value plan left n found >>= λ p. evaluated plan right p.1 >>= joined plan p.0)
unfolding evaluated
merge_case plan left right n m (Some at) e = refl
merge_case plan left right n m None e = merge_right plan left right (n + length (applies right)) m (position_from (breaks plan) n (applies right)) e

pub evaluated-merge : (plan : PlanParts) (left right : Tree) (before : ℕ)
    → evaluated plan (Merge left right) before ≡ merged_on plan left right before
unfolding evaluated
evaluated-merge plan left right before =
    let e : before + length (applies left ++ applies right) ≡ before + length (applies left) + length (applies right) = omega (arith, length-append (applies left) (applies right)) in
    ap (or_value plan (Merge left right) (before + length (applies left ++ applies right))) (first-append (breaks plan) before (applies left) (applies right))
    ∙ merge_case plan left right (before + length (applies left)) (before + length (applies left ++ applies right)) (position_from (breaks plan) before (applies left)) e

plus_nothing : (n : ℕ) → n + 0 ≡ n
plus_nothing n = omega arith

pub evaluated-start : (plan : PlanParts) (before : ℕ) → evaluated plan Start before ≡ Ok (plan.start, before)
unfolding evaluated
evaluated-start plan before = ap (λ n. Ok (plan.start, n)) (plus_nothing before)

-- ---- what has a value is reached

none_parts : (a b : Option ℕ) → option_or a b ≡ None → (a ≡ None) × (b ≡ None)
none_parts None b e = (refl, e)
none_parts (Some x) b e = absurd (cc)

unbroken : (b : Bool) (n : ℕ) → cond (not b) (Some n) None ≡ None → b ≡ true
unbroken true n e = refl
unbroken false n e = absurd (cc)

-- an expression none of whose calls breaks the invariant is reached
reached_where : (plan : PlanParts) (tree : Tree) (before : ℕ) → IsWhole plan plan.start → all_fit plan tree ≡ true → first_broken plan tree before ≡ None → IsReached plan tree
reached_where plan Start before start fit none = start
reached_where plan (Apply id call inner) before start fit none =
    let outer = Apply id call inner in
    let parts = none_parts _ _ (sym (first-append (breaks plan) before (applies inner) (outer ∷ [])) ∙ none) in
    let fits = and_parts (all_fit plan inner) (call_fits plan call) fit in
    (reached_where plan inner before start fits.0 parts.0, fits.1, unbroken (is_whole plan (value plan plan.start outer)) (before + length (applies inner)) parts.1)
reached_where plan (Merge left right) before start fit none =
    let parts = none_parts _ _ (sym (first-append (breaks plan) before (applies left) (applies right)) ∙ none) in
    let fits = and_parts (all_fit plan left) (all_fit plan right) fit in
    (reached_where plan left before start fits.0 parts.0, reached_where plan right (before + length (applies left)) start fits.1 parts.1)

abbrev state_in : Outcome LabelError (List ℤ × ℕ) → List ℤ
state_in (Ok p) = p.0
state_in (Err e) = []

valued : (plan : PlanParts) (tree : Tree) (after : ℕ) (found : Option ℕ) (p : List ℤ × ℕ) → or_value plan tree after found ≡ Ok p → (found ≡ None) × (p.0 ≡ value plan plan.start tree)
valued plan tree after None p e = (refl, ap state_in (sym e))
valued plan tree after (Some at) p e = absurd (cc)

-- an expression that is evaluated is reached, and its value is what comes of it
pub evaluated_reached : (plan : PlanParts) (tree : Tree) (before : ℕ) (p : List ℤ × ℕ) → IsWhole plan plan.start → all_fit plan tree ≡ true → evaluated plan tree before ≡ Ok p
    → IsReached plan tree × (p.0 ≡ value plan plan.start tree)
unfolding evaluated
evaluated_reached plan tree before p start fit e =
    let is = valued plan tree (before + length (applies tree)) (first_broken plan tree before) p e in
    (reached_where plan tree before start fit is.0, is.1)
