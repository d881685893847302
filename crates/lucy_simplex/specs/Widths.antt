-- Where a fraction of an equation passes the limit.
use Rattle.std.specs.Prelude.{◌≡◌, ◌⊎◌, ℕ, ◌*◌, ◌<◌, pos, ◌*ℤ◌, List, slice_get, Some}
use Rattle.lucy_fraction.specs.Rationals.{Ratio, ratio, IsTooWide, quotient}
use Rattle.lucy_clauses.specs.Sums.{number_at}
use Rattle.lucy_simplex.specs.declared.stops.Stop.{Stop}
use Rattle.lucy_simplex.specs.declared.stops.Stop.TheVariants.{Wide, OutOfMemory}
use Rattle.lucy_simplex.specs.Tableaus.{Equation, solved, eliminated, constant}
use Rattle.lucy_simplex.specs.Steps.{IsAddedTooWide}
use Rattle.lucy_simplex.specs.Choices.{fall}

-- want of memory, or that a fraction of that equation is too wide, as the cause says
abbrev pub StopsAt : ℕ → Type 0 → Stop → Type 0
StopsAt equation Cause (Wide n) = (n ≡ equation) × Cause
StopsAt equation Cause OutOfMemory = Unit {0}

-- want of memory, or that a fraction is too wide, as the cause says of its equation
abbrev pub StopsFor : (ℕ → Type 0) → Stop → Type 0
StopsFor Cause (Wide n) = Cause n
StopsFor Cause OutOfMemory = Unit {0}

-- a number, divided by another, is too wide
pub record HasWideQuotient (by : Ratio) (ps : List Ratio) : Type 0 where
  pub place : ℕ
  pub number : Ratio
  pub there : slice_get ps place ≡ Some number
  pub wide : IsTooWide (quotient number by)

-- f times a number, or the sum of another and it, is too wide
pub record HasWideSum (f : Ratio) (ns ps : List Ratio) : Type 0 where
  pub place : ℕ
  pub number : Ratio
  pub other : Ratio
  pub there : slice_get ns place ≡ Some number
  pub other_there : slice_get ps place ≡ Some other
  pub wide : IsAddedTooWide f number other

-- a number of the solved equation
pub record IsSolvedTooWide (e : ℕ) (q : Equation) : Type 0 where
  pub place : ℕ
  pub wide : IsTooWide (ratio (number_at (solved e q).numbers place) (solved e q).below)

-- a number of another equation with the solved one put in, or the product that is added there
pub record IsEliminatedTooWide (s : Equation) (e : ℕ) (q : Equation) : Type 0 where
  pub place : ℕ
  pub wide : IsTooWide (ratio (number_at q.numbers e *ℤ number_at s.numbers place) (q.below * s.below)) ⊎ IsTooWide (ratio (number_at (eliminated s e q).numbers place) (q.below * s.below))

-- the quotient of an equation that falls
pub record IsQuotientTooWide (e : ℕ) (q : Equation) : Type 0 where
  pub by : ℕ
  pub positive : 0 < by
  pub weighs : fall e q ≡ pos by
  pub wide : IsTooWide (ratio (constant q) by)

-- a number of the n-th equation with the solved one put in
pub record HasEliminatedTooWide (s : Equation) (e : ℕ) (qs : List Equation) (n : ℕ) : Type 0 where
  pub equation : Equation
  pub there : slice_get qs n ≡ Some equation
  pub wide : IsEliminatedTooWide s e equation

-- a number of the n-th equation at a pivot
abbrev pub IsPivotTooWide : ℕ → ℕ → Equation → List Equation → ℕ → Type 0
IsPivotTooWide e place q qs n = ((n ≡ place) × IsSolvedTooWide e q) ⊎ HasEliminatedTooWide (solved e q) e qs n

-- the quotient of the n-th equation
pub record HasQuotientTooWide (e : ℕ) (qs : List Equation) (n : ℕ) : Type 0 where
  pub equation : Equation
  pub there : slice_get qs n ≡ Some equation
  pub wide : IsQuotientTooWide e equation
