-- Sessions, and what labels do in them.
use Rattle.std.specs.Prelude.{◌≡◌, ℕ, nat_lt, Bool, true, false, if◌then◌else◌, ℤ, is_some, is_none, IsSome, List, [], ◌∷◌, ◌++◌, length, Option, Some, None, Ok, Err, refl}
use Rattle.std.specs.Ordering.{int_eq}
use Rattle.std.specs.Option.{option_map}
use Rattle.std.specs.Cmp.Lexicographic.{pointwise}
use Rattle.std.specs.Coded.{Coded, code_by, coded×, coded_ℕ, coded_ℤ, coded_list, coded_option}
use Rattle.lucy_io.specs.Outcomes.{Outcome, ◌>>=◌}
use Rattle.lucy_clauses.specs.Formulas.{HasNoModel}
use Rattle.lucy_model.specs.Merging.{merged}
use Rattle.lucy_names.specs.declared.names.Names.{Names}
use Rattle.lucy_plan.specs.Segments.{is_whole}
use Rattle.lucy_plan.specs.declared.parts.PlanParts.{PlanParts}
use Rattle.lucy_plan.specs.declared.plans.Plan as plan
use Rattle.lucy_expr.specs.Trees.{Tree, Start, value}
use Rattle.lucy_expr.specs.Expressions.{Expression, expression_code}
use Rattle.lucy_expr.specs.Reachability.{IsReached}
use Rattle.lucy_walks.specs.Sketches.{named, most_replicas}
use Rattle.lucy_walks.specs.Walks.{walked}
use Rattle.lucy_closure.specs.Formulas.{whole_closure}
use Rattle.lucy_closure.specs.Meanings.{IsEscape, is_whole_off}
use Rattle.lucy_session.specs.declared.answers.LabelError.{LabelError}
use Rattle.lucy_session.specs.declared.answers.LabelError.TheVariants.{AlreadyReachable, TooMany, OtherState}
use Rattle.lucy_session.specs.declared.answers.Next.{Next}
use Rattle.lucy_session.specs.declared.answers.Next.TheVariants as next
use Rattle.lucy_session.specs.declared.labels.Side.{Side}
use Rattle.lucy_session.specs.declared.labels.Side.TheVariants.{Left, Right}
use Rattle.lucy_session.specs.declared.reached.Reached.{Reached}
use Rattle.lucy_session.specs.declared.reached.Pair.{Pair}
use Rattle.lucy_session.specs.Labels.{Label, Claim, Unreach, Reach, label_of}
use Rattle.lucy_session.specs.Evaluation.{evaluated}
use Rattle.lucy_session.specs.Laws.{IsConfluentWithout}

-- a session, without pointers: the plan and its names, the states that labels exclude, in the order of the labels, the states that have an
-- expression, and the pair that is shown
pub record Dialogue : Type 0 where
  pub plan : PlanParts
  pub names : Names
  pub points : List (List ℤ)
  pub reached : List Reached
  pub pair : Option Pair

-- ---- how it is told by numbers

abbrev pub names_code : Coded Names
names_code = code_by (List (List ℕ) × List (List ℕ)) (coded× (coded_list (coded_list coded_ℕ)) (coded_list (coded_list coded_ℕ))) (λ n. (n.segments, n.txns))
    (λ p. record { segments = p.0; txns = p.1 }) (λ _. refl)

abbrev pub reached_code : Coded Reached
reached_code = code_by (List ℤ × Expression) (coded× (coded_list coded_ℤ) expression_code) (λ r. (r.state, r.expr)) (λ p. record { state = p.0; expr = p.1 }) (λ _. refl)

abbrev pub pair_code : Coded Pair
pair_code = code_by (List ℤ × List ℤ) (coded× (coded_list coded_ℤ) (coded_list coded_ℤ)) (λ p. (p.left, p.right)) (λ p. record { left = p.0; right = p.1 }) (λ _. refl)

abbrev pub dialogue_code : Coded Dialogue
dialogue_code =
    code_by (PlanParts × (Names × (List (List ℤ) × (List Reached × Option Pair))))
    (coded× plan.the_code (coded× names_code (coded× (coded_list (coded_list coded_ℤ)) (coded× (coded_list reached_code) (coded_option pair_code)))))
    (λ d. (d.plan, (d.names, (d.points, (d.reached, d.pair)))))
    (λ p. record { plan = p.0; names = p.1.0; points = p.1.1.0; reached = p.1.1.1.0; pair = p.1.1.1.1 })
    (λ _. refl)

-- ---- expressions of states

-- the expression of a state, if it has one
abbrev pub expr_of : List Reached → List ℤ → Option Expression
expr_of [] state = None
expr_of (entry ∷ reached) state = if pointwise int_eq entry.state state then Some entry.expr else expr_of reached state

-- an expression with room for 16 replicas
abbrev pub roomy : Tree → Expression
roomy tree = record { tree = tree; room = most_replicas }

-- a state that is reached by an expression
abbrev pub reached_by : List ℤ → Tree → Reached
reached_by state tree = record { state = state; expr = roomy tree }

-- a state with an expression
abbrev pub entry_at : List ℤ → Expression → Reached
entry_at state expr = record { state = state; expr = expr }

-- an entry alone, if there is one
abbrev pub listed : Option Reached → List Reached
listed None = []
listed (Some entry) = entry ∷ []

-- a session at its begin: no state is excluded, and the start alone has an expression
abbrev pub opening : PlanParts → Names → Dialogue
opening plan names = record { plan = plan; names = names; points = []; reached = reached_by plan.start Start ∷ []; pair = None }

-- ---- what comes next

abbrev pub answer_by : Pair → Option Expression → Option Expression → Next
answer_by p (Some e) (Some f) = next.Broken e f
answer_by p e f = next.Pair p.left p.right (is_none e) (is_none f)

-- the pair with what is asked of it, or the expressions of both its states where both have one; without a pair the session is closed
abbrev pub answer_of : List Reached → Option Pair → Next
answer_of reached None = next.Closed
answer_of reached (Some p) = answer_by p (expr_of reached p.left) (expr_of reached p.right)

-- two states of the invariant, neither of them excluded, whose merge breaks it, the smaller one left
abbrev pub IsShown : PlanParts → List (List ℤ) → Pair → Type 0
IsShown plan points p = IsEscape plan (is_whole_off plan points) (is_whole plan) (p.left, p.right)

-- a pair to show, or that there is none, as the formula of the whole closure tells
abbrev pub IsDrawn : PlanParts → List (List ℤ) → Option Pair → Type 0
IsDrawn plan points None = HasNoModel (whole_closure plan points)
IsDrawn plan points (Some p) = IsShown plan points p

-- a pair that is shown stays; without one a pair is drawn
abbrev pub Follows : PlanParts → List (List ℤ) → Option Pair → Option Pair → Type 0
Follows plan points (Some p) after = after ≡ Some p
Follows plan points None after = IsDrawn plan points after

-- the pair that is shown behind an answer: none where the session is closed, the two states of a pair, and some pair where two expressions end
abbrev pub Stands : Option Pair → Next → Type 0
Stands pair next.Closed = pair ≡ None
Stands pair (next.Pair left right asks_left asks_right) = pair ≡ Some (record { left = left; right = right })
Stands pair (next.Broken left right) = IsSome pair

-- what an answer means: where the session is closed, each state that is reached satisfies the invariant, if no excluded one is reached; a pair is
-- two states whose merge breaks the invariant; two expressions are reached, and their merge breaks it
abbrev pub Means : PlanParts → List (List ℤ) → Next → Type 0
Means plan points next.Closed = IsConfluentWithout plan points
Means plan points (next.Pair left right asks_left asks_right) = IsEscape plan (is_whole_off plan points) (is_whole plan) (left, right)
Means plan points (next.Broken left right) =
    IsReached plan left.tree × IsReached plan right.tree × (is_whole plan (merged plan.object (value plan plan.start left.tree) (value plan plan.start right.tree)) ≡ false)

-- ---- labels

-- the state that a label names
abbrev pub state_on : Side → Pair → List ℤ
state_on Left p = p.left
state_on Right p = p.right

-- how many states may be excluded
abbrev pub most_points : ℕ
most_points = 256

-- a state is excluded, and the pair is no longer shown
abbrev pub excluded : Dialogue → List ℤ → Outcome LabelError Dialogue
excluded d state = if nat_lt (length d.points) most_points then Ok (record d { points = d.points ++ state ∷ []; pair = None }) else Err TooMany

-- a state gets an expression, its calls named, if the expression's value is the state
abbrev pub given : Dialogue → List ℤ → Tree → List ℤ → Outcome LabelError Dialogue
given d state tree found = if pointwise int_eq found state then Ok (record d { reached = d.reached ++ reached_by state (named tree) ∷ [] }) else Err OtherState

abbrev pub claimed : Dialogue → List ℤ → Claim → Outcome LabelError Dialogue
claimed d state Unreach = excluded d state
claimed d state (Reach tree) = evaluated d.plan tree 0 >>= λ found. given d state tree found.0

-- what is claimed of a state that has no expression yet
abbrev pub asked : Dialogue → List ℤ → Claim → Outcome LabelError Dialogue
asked d state claim = if is_some (expr_of d.reached state) then Err AlreadyReachable else claimed d state claim

abbrev pub labelled_by : Dialogue → Option Pair → Label → Outcome LabelError Dialogue
labelled_by d None label = Ok d
labelled_by d (Some p) label = asked d (state_on label.side p) label.claim

-- the session after a label's line, or the first cause why it is refused: it is no label; its state has an expression; too many states are
-- excluded; a call breaks the invariant; the value is another state
unfoldable pub labelled : Dialogue → List ℕ → Outcome LabelError Dialogue
labelled d line = label_of d.plan line >>= labelled_by d d.pair

-- ---- search

-- the expression that a walk finds for a state that is not among those with one
abbrev pub found_beside : PlanParts → List Reached → ℕ → ℕ → List ℤ → Option Tree
found_beside plan reached seed rounds state = if is_some (expr_of reached state) then None else walked plan seed rounds state

-- the expression that a walk finds for a state without one
abbrev pub found_for : Dialogue → ℕ → ℕ → List ℤ → Option Tree
found_for d seed rounds state = found_beside d.plan d.reached seed rounds state

-- what was found for a state, as its expression
abbrev pub entries_of : List ℤ → Option Tree → List Reached
entries_of state None = []
entries_of state (Some tree) = reached_by state tree ∷ []

-- the session with what walks found for both states of a pair
abbrev pub searched : Dialogue → ℕ → ℕ → Pair → Dialogue
searched d seed rounds p = record d {
  reached = d.reached ++ entries_of p.left (found_for d seed rounds p.left) ++ entries_of p.right (found_for d seed rounds p.right);
}

-- what a search answers: what was found for each state of the pair
abbrev pub found_of : Dialogue → ℕ → ℕ → Pair → Option Expression × Option Expression
found_of d seed rounds p = (option_map roomy (found_for d seed rounds p.left), option_map roomy (found_for d seed rounds p.right))

-- a search on the pair that is shown
abbrev pub Searches : Dialogue → ℕ → ℕ → Option Pair → Option Expression × Option Expression → Dialogue → Type 0
Searches d seed rounds None found after = (found ≡ (None, None)) × (after ≡ d)
Searches d seed rounds (Some p) found after = (found ≡ found_of d seed rounds p) × (after ≡ searched d seed rounds p)
