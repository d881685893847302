-- The run of the simplex method: which variable enters and which leaves at each pivot, and how it ends.
use Rattle.std.specs.Prelude.{◌≡◌, ◌≢◌, ◌⊎◌, ℕ, zero, suc, ◌<◌, ◌≤◌, pos, ◌≤ℤ◌, ◌<ℤ◌, List, slice_get, Some}
use Rattle.lucy_clauses.specs.Sums.{number_at}
use Rattle.lucy_simplex.specs.Tableaus.{Equation, solved, exchanged, constant}
use Rattle.lucy_simplex.specs.Choices.{fall, ComesFirst}
use Rattle.lucy_simplex.specs.Widths.{HasQuotientTooWide, IsPivotTooWide}

-- the constant of q is below 0 and the least; among equals the basic variable of q is
pub record IsLowest (place : ℕ) (q : Equation) (qs : List Equation) : Type 0 where
  pub there : slice_get qs place ≡ Some q
  pub below : constant q <ℤ pos 0
  pub least : (i : ℕ) (p : Equation) → slice_get qs i ≡ Some p → constant q ≤ℤ constant p
  pub among_equals : (i : ℕ) (p : Equation) → slice_get qs i ≡ Some p → constant q ≡ constant p → q.basic ≤ p.basic

-- e is the least variable that improves: its number in the auxiliary variable's equation, which is at that place, is below 0
pub record CanImprove (place e : ℕ) (qs : List Equation) : Type 0 where
  pub auxiliary : Equation
  pub there : slice_get qs place ≡ Some auxiliary
  pub basic_is : auxiliary.basic ≡ 1
  pub behind : 1 < e
  pub falls : number_at auxiliary.numbers e <ℤ pos 0
  pub first : (k : ℕ) → 1 < k → k < e → pos 0 ≤ℤ number_at auxiliary.numbers k

-- the basic variable of q leaves: it binds the entering variable, and is the least that does
pub record Leaves (e place : ℕ) (q : Equation) (qs : List Equation) : Type 0 where
  pub there : slice_get qs place ≡ Some q
  pub falls : pos 0 <ℤ fall e q
  pub first : (i : ℕ) (p : Equation) → slice_get qs i ≡ Some p → pos 0 <ℤ fall e p → ComesFirst (fall e) q p

-- the first pivot brings in the auxiliary variable at the least constant; each other one the least variable that improves
abbrev pub IsChosen : ℕ → ℕ → ℕ → Equation → List Equation → Type 0
IsChosen zero e place q qs = (e ≡ 1) × IsLowest place q qs
IsChosen (suc made) e place q qs = (auxiliary : ℕ) × CanImprove auxiliary e qs × Leaves e place q qs

-- the tableau after the pivot that follows `made` others
pub record IsNext (made : ℕ) (qs rs : List Equation) : Type 0 where
  pub entering : ℕ
  pub place : ℕ
  pub leaving : Equation
  pub chosen : IsChosen made entering place leaving qs
  pub is : rs ≡ exchanged (solved entering leaving) entering place qs

-- so many pivots lead from the first tableau to another
abbrev pub RunsTo : List Equation → ℕ → List Equation → Type 0
RunsTo first zero rs = rs ≡ first
RunsTo first (suc made) rs = (qs : List Equation) × RunsTo first made qs × IsNext made qs rs

-- the auxiliary variable has left
abbrev pub HasNoAuxiliary : List Equation → Type 0
HasNoAuxiliary qs = (i : ℕ) (q : Equation) → slice_get qs i ≡ Some q → q.basic ≢ 1

-- no variable improves
pub record IsStuck (place : ℕ) (qs : List Equation) : Type 0 where
  pub auxiliary : Equation
  pub there : slice_get qs place ≡ Some auxiliary
  pub basic_is : auxiliary.basic ≡ 1
  pub none_improves : (k : ℕ) → 1 < k → pos 0 ≤ℤ number_at auxiliary.numbers k

-- ---- where a fraction is too wide

-- the quotient of the n-th equation, where a variable improves
pub record IsChoiceTooWide (qs : List Equation) (n : ℕ) : Type 0 where
  pub auxiliary : ℕ
  pub entering : ℕ
  pub improves : CanImprove auxiliary entering qs
  pub wide : HasQuotientTooWide entering qs n

-- a number of the n-th equation at the pivot that follows `made` others
pub record IsNextTooWide (made : ℕ) (qs : List Equation) (n : ℕ) : Type 0 where
  pub entering : ℕ
  pub place : ℕ
  pub leaving : Equation
  pub chosen : IsChosen made entering place leaving qs
  pub wide : IsPivotTooWide entering place leaving qs n

abbrev pub IsStepTooWide : ℕ → List Equation → ℕ → Type 0
IsStepTooWide zero qs n = IsNextTooWide zero qs n
IsStepTooWide (suc made) qs n = IsChoiceTooWide qs n ⊎ IsNextTooWide (suc made) qs n

-- a fraction of the n-th equation, at one of the pivots
pub record IsRunTooWide (first : List Equation) (turns n : ℕ) : Type 0 where
  pub made : ℕ
  pub within : made < turns
  pub qs : List Equation
  pub runs : RunsTo first made qs
  pub wide : IsStepTooWide made qs n
