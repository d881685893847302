-- What the lines of labels say.
use Rattle.std.specs.Prelude.{◌≡◌, ℕ, ◌+◌, ◌-◌, ◌*◌, ◌≤◌, ◌==◌, ◌&&◌, Bool, true, false, if◌then◌else◌, IsTrue, List, length, take, slice_index, codes, Ok, Err}
use Rattle.lucy_io.specs.Outcomes as outcomes
use Rattle.lucy_plan.specs.Calls.{call_fits}
use Rattle.lucy_plan.specs.declared.parts.PlanParts.{PlanParts}
use Rattle.lucy_expr.specs.Trees.{Tree, Start, Apply, Merge}
use Rattle.lucy_walks.specs.Sketches.{tree_of, size, are_seated}
use Rattle.lucy_session.specs.declared.answers.LabelError.{LabelError}
use Rattle.lucy_session.specs.declared.labels.Side.{Side}
use Rattle.lucy_session.specs.declared.labels.Side.TheVariants.{Left, Right}
use Rattle.lucy_session.specs.declared.labels.Claim as declared_claim
use Rattle.lucy_session.specs.declared.labels.Claim.TheVariants as the_claim
use Rattle.lucy_session.specs.declared.labels.Label as the_label
use Rattle.lucy_session.specs.Reading.{Reader, and_then, ◌>>=◌, pure, refuse, eat, expect, ended}
use Rattle.lucy_session.specs.Expressions.{expr}

-- what a label says of a state: it is never reached, or it is reached by an expression
pub data Claim : Type 0 where
  Unreach : Claim
  Reach : (tree : Tree) → Claim

-- a label: the state that it names, and what it says of it
pub record Label : Type 0 where
  pub side : Side
  pub claim : Claim

abbrev pub claim_seen : declared_claim.Claim → Claim
claim_seen the_claim.Unreach = Unreach
claim_seen (the_claim.Reach sketch) = Reach (tree_of sketch)

abbrev pub label_seen : the_label.Label → Label
label_seen label = record { side = label.side; claim = claim_seen label.claim }

-- how many parentheses may stand open at once
abbrev pub most_open : ℕ
most_open = 256

abbrev pub by_right : Bool → Reader Side
by_right true = pure Right
by_right false = refuse

abbrev pub by_left : Bool → Reader Side
by_left true = pure Left
by_left false = eat (codes "right ") >>= by_right

-- "left " or "right "
unfoldable pub side : Reader Side
side = eat (codes "left ") >>= by_left

-- "reach " and an expression
unfoldable pub reach : PlanParts → Reader Claim
reach plan = expect (codes "reach ") >>= λ _. expr plan most_open >>= λ tree. pure (Reach tree)

abbrev pub by_unreach : PlanParts → Bool → Reader Claim
by_unreach plan true = pure Unreach
by_unreach plan false = reach plan

-- "unreach", or "reach " and an expression
unfoldable pub claim : PlanParts → Reader Claim
claim plan = eat (codes "unreach") >>= by_unreach plan

-- a line without the CR at its end
unfoldable pub without_return : List ℕ → List ℕ
without_return line = if slice_index line (length line - 1) == 13 then take (length line - 1) line else line

abbrev pub whole_label : PlanParts → Reader Label
whole_label plan = do
  side ← side
  claim ← claim plan
  over ← ended
  pure (record { side = side; claim = claim })

-- without the bytes behind it
abbrev pub alone : {A : Type 0} → outcomes.Outcome LabelError (A × List ℕ) → outcomes.Outcome LabelError A
alone (Ok p) = Ok p.0
alone (Err e) = Err e

-- what a line says to a plan, or that it is no label
unfoldable pub label_of : PlanParts → List ℕ → outcomes.Outcome LabelError Label
label_of plan line = alone (whole_label plan (without_return line))

-- ---- what is known of an expression that was read

-- each call fits the plan
abbrev pub all_fit : PlanParts → Tree → Bool
all_fit plan Start = true
all_fit plan (Apply id call inner) = all_fit plan inner && call_fits plan call
all_fit plan (Merge left right) = all_fit plan left && all_fit plan right

-- each call is one of replicas 0 to 15 and fits the plan; seven times its nodes are at most the bytes that were read for it and 2 more, where so many
-- were left before and after
pub record IsRead (plan : PlanParts) (before after : ℕ) (tree : Tree) : Type 0 where
  pub seated : IsTrue (are_seated tree)
  pub fit : IsTrue (all_fit plan tree)
  pub few : 7 * size tree + after ≤ before + 2

abbrev pub IsClaim : PlanParts → ℕ → ℕ → Claim → Type 0
IsClaim plan before after Unreach = Unit {0}
IsClaim plan before after (Reach tree) = IsRead plan before after tree
