-- What comes of the evaluation of an expression from a plan's start.
use Rattle.std.specs.Prelude.{◌≡◌, ℕ, ◌+◌, not, if◌then◌else◌, ℤ, List, [], ◌∷◌, ◌++◌, length, Option, Some, None, Bool, Ok, Err}
use Rattle.std.specs.List.{position_from}
use Rattle.lucy_io.specs.Outcomes.{Outcome, ◌>>=◌}
use Rattle.lucy_model.specs.Merging.{merged}
use Rattle.lucy_plan.specs.Calls.{applied}
use Rattle.lucy_plan.specs.Segments.{is_whole}
use Rattle.lucy_plan.specs.declared.parts.Call.{Call}
use Rattle.lucy_plan.specs.declared.parts.PlanParts.{PlanParts}
use Rattle.lucy_expr.specs.Trees.{Tree, Start, Apply, Merge, value}
use Rattle.lucy_session.specs.declared.answers.LabelError.{LabelError}
use Rattle.lucy_session.specs.declared.answers.LabelError.TheVariants.{NotReached}

-- the calls of an expression in the order of evaluation, each with what it is applied to: an inner expression before the call around it,
-- a merge's left part before its right one
abbrev pub applies : Tree → List Tree
applies Start = []
applies (Apply id call inner) = applies inner ++ Apply id call inner ∷ []
applies (Merge left right) = applies left ++ applies right

-- the value of an expression breaks the invariant
abbrev pub breaks : PlanParts → Tree → Bool
breaks plan tree = not (is_whole plan (value plan plan.start tree))

-- the number of the first call whose result breaks the invariant, if there is one, where so many calls were numbered before
abbrev pub first_broken : PlanParts → Tree → ℕ → Option ℕ
first_broken plan tree before = position_from (breaks plan) before (applies tree)

abbrev pub or_value : PlanParts → Tree → ℕ → Option ℕ → Outcome LabelError (List ℤ × ℕ)
or_value plan tree after None = Ok (value plan plan.start tree, after)
or_value plan tree after (Some at) = Err (NotReached at)

-- the value of an expression and the number of the next call, where so many calls were numbered before; or the first call that breaks the invariant
unfoldable pub evaluated : PlanParts → Tree → ℕ → Outcome LabelError (List ℤ × ℕ)
evaluated plan tree before = or_value plan tree (before + length (applies tree)) (first_broken plan tree before)

-- the result of one call, which has this number, and the number of the next one
abbrev pub called : PlanParts → Call → List ℤ → ℕ → Outcome LabelError (List ℤ × ℕ)
called plan call state number = if is_whole plan (applied plan call state) then Ok (applied plan call state, number + 1) else Err (NotReached number)

-- the same of a call on an expression
abbrev pub called_on : PlanParts → Call → Tree → ℕ → Outcome LabelError (List ℤ × ℕ)
called_on plan call inner before = evaluated plan inner before >>= λ p. called plan call p.0 p.1

-- what follows the value of a merge's right part
abbrev pub joined : PlanParts → List ℤ → List ℤ × ℕ → Outcome LabelError (List ℤ × ℕ)
joined plan first p = Ok (merged plan.object first p.0, p.1)

-- the same of the merge of two expressions
abbrev pub merged_on : PlanParts → Tree → Tree → ℕ → Outcome LabelError (List ℤ × ℕ)
merged_on plan left right before = evaluated plan left before >>= λ p. evaluated plan right p.1 >>= joined plan p.0
