-- How many numbers are left, and what halving makes of a bound.
use Rattle.std.specs.Prelude.{ℤ, ◌-ℤ◌, ◌<ℤ◌, ◌≡◌, ◌+ℤ◌, pos, ℕ, List, Some, slice_get, ◌+◌, [], ◌∷◌, ◌<◌, length, unsigned_abs}
use Rattle.lucy_clauses.specs.declared.formulas.Range.{Range}
use Rattle.lucy_clauses.specs.declared.lines.Ref.TheVariants.{Negated, Low, High}
use Rattle.lucy_solver.specs.declared.boxes.Bound.{Bound}
use Rattle.lucy_solver.specs.declared.halves.Open.{Open}

abbrev pub width : Bound → ℕ
width b = unsigned_abs (b.hi -ℤ b.lo)

abbrev pub span : List Bound → ℕ
span [] = 0
span (b ∷ bs) = width b + span bs

-- the variable's range has two numbers or more
pub record IsOpen (bs : List Bound) (o : Open) : Type 0 where
  pub below : o.variable < length bs
  pub there : slice_get bs o.variable ≡ Some o.bound
  pub wide : o.bound.lo <ℤ o.bound.hi

-- the same bound, with a lower upper end, which the decision at a place says
abbrev pub IsHigh : ℕ → ℤ → Bound → Bound → Type 0
IsHigh place middle old new = (new.lo ≡ old.lo) × (new.hi ≡ middle) × (new.low ≡ old.low) × (new.high ≡ Negated place)

abbrev pub IsLow : ℕ → ℤ → Bound → Bound → Type 0
IsLow place middle old new = (new.lo ≡ middle +ℤ pos 1) × (new.hi ≡ old.hi) × (new.low ≡ Negated place) × (new.high ≡ old.high)

abbrev pub whole_bound : ℕ → Range → Bound
whole_bound i r = record { lo = r.lo; hi = r.hi; low = Low i; high = High i }

-- the whole ranges, from place i on
abbrev pub whole : ℕ → List Range → List Bound
whole i [] = []
whole i (r ∷ rs) = whole_bound i r ∷ whole (i + 1) rs
