-- What the formulas tell of a plan.
use Rattle.std.specs.Prelude.{◌≡◌, ℕ, ◌<◌, ℤ, Bool, false, ◌&&◌, not, IsTrue, List, length, is_some, true}
use Rattle.lucy_clauses.specs.declared.formulas.Formula.{Formula}
use Rattle.lucy_clauses.specs.Formulas.{Models}
use Rattle.lucy_model.specs.Merging.{merged}
use Rattle.lucy_plan.specs.declared.parts.PlanParts.{PlanParts}
use Rattle.lucy_plan.specs.Plans.{IsPlan}
use Rattle.lucy_plan.specs.Segments.{is_whole, IsWhole, is_among, is_in_segment, first_segment}
use Rattle.lucy_closure.specs.Points.{are_points}
use Rattle.lucy_closure.specs.Formulas.{closure_formula, whole_closure, cover_formula}
use Rattle.lucy_closure.specs.Readings.{pair_of, first_state, second_state, comes_before}

-- a state satisfies the invariant and is none of the points
abbrev pub is_whole_off : PlanParts → List (List ℤ) → List ℤ → Bool
is_whole_off plan points state = is_whole plan state && not (is_among points state)

-- the merge of any two states of the invariant, neither of them a point, satisfies it
abbrev pub IsWholeClosedOff : PlanParts → List (List ℤ) → Type 0
IsWholeClosedOff plan points =
    (left right : List ℤ) → IsTrue (is_whole_off plan points left) → IsTrue (is_whole_off plan points right) → IsWhole plan (merged plan.object left right)

-- two states that pass a test, whose merge does not pass another, the one that comes before the other first
pub record IsEscape (plan : PlanParts) (inside safe : List ℤ → Bool) (pair : List ℤ × List ℤ) : Type 0 where
  pub first : IsTrue (inside pair.0)
  pub second : IsTrue (inside pair.1)
  pub merge : safe (merged plan.object pair.0 pair.1) ≡ false
  pub order : comes_before pair.1 pair.0 ≡ false

-- a model of a closure formula is two states of the segment whose merge is outside it
abbrev pub ClosureModelIsEscape : Type 0
ClosureModelIsEscape =
    (plan : PlanParts) (segment : ℕ) (a : List ℤ) → IsPlan plan → segment < length plan.segments → Models (closure_formula plan segment) a
    → IsEscape plan (is_in_segment plan segment) (is_in_segment plan segment) (pair_of (length plan.object) a)

-- a model of a whole closure is two states of the invariant, neither of them a point, whose merge does not satisfy it
abbrev pub WholeModelIsEscape : Type 0
WholeModelIsEscape =
    (plan : PlanParts) (points : List (List ℤ)) (a : List ℤ) → IsPlan plan → are_points (length plan.object) points ≡ true → Models (whole_closure plan points) a
    → IsEscape plan (is_whole_off plan points) (is_whole plan) (pair_of (length plan.object) a)

-- a model of the cover formula is a state of the invariant in no segment
abbrev pub CoverModelIsUncovered : Type 0
CoverModelIsUncovered =
    (plan : PlanParts) (a : List ℤ) → IsPlan plan → Models (cover_formula plan) a
    → IsWhole plan (first_state (length plan.object) a) × (is_some (first_segment plan (first_state (length plan.object) a)) ≡ false)

-- ---- the states give models

-- a formula has a model whose first numbers are those of two states
pub record HasModelOfPair (f : Formula) (leaves : ℕ) (left right : List ℤ) : Type 0 where
  pub numbers : List ℤ
  pub model : Models f numbers
  pub first : first_state leaves numbers ≡ left
  pub second : second_state leaves numbers ≡ right

-- a formula has a model whose first numbers are those of a state
pub record HasModelOfState (f : Formula) (leaves : ℕ) (state : List ℤ) : Type 0 where
  pub numbers : List ℤ
  pub model : Models f numbers
  pub first : first_state leaves numbers ≡ state

-- any two states of a segment whose merge is outside it are those of a model
abbrev pub EscapeIsClosureModel : Type 0
EscapeIsClosureModel =
    (plan : PlanParts) (segment : ℕ) (left right : List ℤ) → IsPlan plan → segment < length plan.segments
    → IsTrue (is_in_segment plan segment left) → IsTrue (is_in_segment plan segment right) → is_in_segment plan segment (merged plan.object left right) ≡ false
    → HasModelOfPair (closure_formula plan segment) (length plan.object) left right

-- any two states of the invariant, neither of them a point, whose merge does not satisfy it are those of a model
abbrev pub EscapeIsWholeModel : Type 0
EscapeIsWholeModel =
    (plan : PlanParts) (points : List (List ℤ)) (left right : List ℤ) → IsPlan plan → are_points (length plan.object) points ≡ true
    → IsTrue (is_whole_off plan points left) → IsTrue (is_whole_off plan points right) → is_whole plan (merged plan.object left right) ≡ false
    → HasModelOfPair (whole_closure plan points) (length plan.object) left right

-- any state of the invariant in no segment is that of a model
abbrev pub UncoveredIsCoverModel : Type 0
UncoveredIsCoverModel =
    (plan : PlanParts) (state : List ℤ) → IsPlan plan → IsWhole plan state → is_some (first_segment plan state) ≡ false
    → HasModelOfState (cover_formula plan) (length plan.object) state
