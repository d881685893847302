-- Ranges with no number.
use Rattle.std.specs.Prelude.{◌≡◌, ℕ, ◌≤◌, ◌<◌, ◌^◌, ◌<ℤ◌, pos, unsigned_abs, List, [], ◌∷◌, Some, slice_get}
use Rattle.lucy_clauses.specs.declared.formulas.Clause.{Clause}
use Rattle.lucy_clauses.specs.declared.formulas.Range.{Range}
use Rattle.lucy_clauses.specs.declared.lines.Ref.TheVariants.{Low, High}
use Rattle.lucy_clauses.specs.declared.lines.Times.{Times}
use Rattle.lucy_solver.specs.Boxes.{times_of}

-- the variable's range has no number
pub record IsEmpty (ranges : List Range) (v : ℕ) : Type 0 where
  pub range : Range
  pub there : slice_get ranges v ≡ Some range
  pub none : range.hi <ℤ range.lo
  pub few : v < 2 ^ 32
  pub low : unsigned_abs range.lo ≤ 2 ^ 63
  pub high : unsigned_abs range.hi ≤ 2 ^ 63

-- both bounds of a range
abbrev pub range_times : ℕ → List Times
range_times v = times_of (pos 1) (Low v) ∷ times_of (pos 1) (High v) ∷ []

abbrev pub no_atoms : Clause
no_atoms = record { atoms = [] }
