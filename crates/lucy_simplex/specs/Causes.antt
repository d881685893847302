-- Where an answer gives up: a fraction of an equation passes the limit.
use Rattle.std.specs.Prelude.{◌≡◌, ◌⊎◌, ℕ, ◌+◌, ◌<◌, ◌≤◌, ◌^◌, false, ℤ, pos, ◌+ℤ◌, ◌*ℤ◌, List, [], ◌∷◌, length, slice_get, Some}
use Rattle.std.specs.List.{list_any}
use Rattle.lucy_fraction.specs.Rationals.{ratio, IsTooWide}
use Rattle.lucy_clauses.specs.declared.formulas.Range.{Range}
use Rattle.lucy_clauses.specs.Sums.{Form, number_at}
use Rattle.lucy_simplex.specs.Tableaus.{Equation, constant}
use Rattle.lucy_simplex.specs.First.{first_tableau}
use Rattle.lucy_simplex.specs.Runs.{RunsTo, HasNoAuxiliary, IsStuck, IsRunTooWide}
use Rattle.lucy_simplex.specs.Sure.{lows_hold, is_alone}

-- one of the numbers, over 1, is too wide
abbrev pub SomeTooWide : List ℤ → Type 0
SomeTooWide [] = ⊥
SomeTooWide (x ∷ xs) = IsTooWide (ratio x 1) ⊎ SomeTooWide xs

-- a number of the n-th equation of the first tableau
pub record IsFirstTooWide (rows : List Form) (bounds : List Range) (n : ℕ) : Type 0 where
  pub equation : Equation
  pub there : slice_get (first_tableau rows bounds) n ≡ Some equation
  pub wide : SomeTooWide equation.numbers

-- w times a number over its equation's denominator is whole
abbrev pub IsWholeBy : ℕ → ℕ → ℤ → Type 0
IsWholeBy w below x = (m : ℤ) × (pos w *ℤ x ≡ m *ℤ pos below)

-- the equation's numbers at the places of variables, up to a last place
abbrev pub AreWholeBy : ℕ → ℕ → Equation → Type 0
AreWholeBy w last q = (k : ℕ) → 1 < k → k ≤ last → IsWholeBy w q.below (number_at q.numbers k)

-- nothing improves the auxiliary variable, and the multipliers up to the slack of the n-th equation have no common denominator within the limit
pub record AreMultipliersTooWide (variables : ℕ) (qs : List Equation) (n : ℕ) : Type 0 where
  pub place : ℕ
  pub stuck : IsStuck place qs
  pub past : (w : ℕ) → 0 < w → AreWholeBy w (2 + variables + n) stuck.auxiliary → 2 ^ 62 < w

-- the auxiliary variable has left, and the coordinate of the n-th equation's basic variable, shifted back, is too wide
pub record IsPointTooWide (bounds : List Range) (qs : List Equation) (n : ℕ) : Type 0 where
  pub left : HasNoAuxiliary qs
  pub equation : Equation
  pub there : slice_get qs n ≡ Some equation
  pub variable : ℕ
  pub basic_is : equation.basic ≡ 2 + variable
  pub bound : Range
  pub bound_there : slice_get bounds variable ≡ Some bound
  pub wide : IsTooWide (ratio (bound.lo *ℤ pos equation.below +ℤ constant equation) equation.below)

-- where the run ends after at least one pivot and at most `turns`
pub record IsEndTooWide (rows : List Form) (bounds : List Range) (turns n : ℕ) : Type 0 where
  pub made : ℕ
  pub some : 0 < made
  pub within : made ≤ turns
  pub qs : List Equation
  pub runs : RunsTo (first_tableau rows bounds) made qs
  pub wide : AreMultipliersTooWide (length bounds) qs n ⊎ IsPointTooWide bounds qs n

-- a fraction of the n-th equation is too wide: in the first tableau, at a pivot, or where the run ends
abbrev pub IsSomewhereTooWide : List Form → List Range → ℕ → ℕ → Type 0
IsSomewhereTooWide rows bounds turns n = IsFirstTooWide rows bounds n ⊎ (IsRunTooWide (first_tableau rows bounds) turns n ⊎ IsEndTooWide rows bounds turns n)

-- neither sure case stands, and a fraction of the n-th equation is too wide
pub record GivesUp (rows : List Form) (bounds : List Range) (turns n : ℕ) : Type 0 where
  pub lows_break : lows_hold rows bounds ≡ false
  pub none_alone : list_any (is_alone bounds) rows ≡ false
  pub wide : IsSomewhereTooWide rows bounds turns n
