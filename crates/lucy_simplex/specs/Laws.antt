-- Laws of answers and of the run.
use Rattle.std.specs.Prelude.{◌≡◌, ◌≢◌, ℕ, ℤ, pos, List, slice_get, Some}
use Rattle.lucy_fraction.specs.Rationals.{Ratio}
use Rattle.lucy_clauses.specs.declared.formulas.Range.{Range}
use Rattle.lucy_clauses.specs.Sums.{Form, number_at}
use Rattle.lucy_simplex.specs.Systems.{Satisfies, Refutes}
use Rattle.lucy_simplex.specs.First.{first_tableau}
use Rattle.lucy_simplex.specs.Runs.{RunsTo}
use Rattle.lucy_simplex.specs.Tableaus.{Equation, IsSolution, HaveLength, solved, exchanged}

-- no point satisfies what multipliers refute
abbrev pub RefutedHasNoPoint : Type 0
RefutedHasNoPoint = (rows : List Form) (bounds : List Range) (ms lows highs : List ℤ) (point : List Ratio) → Refutes rows bounds ms lows highs → Satisfies rows bounds point → ⊥

-- a pivot keeps the solutions, both ways
abbrev pub PivotKeepsSolutions : Type 0
PivotKeepsSolutions = (n place e : ℕ) (q : Equation) (qs : List Equation) (v : List ℤ) → slice_get qs place ≡ Some q → number_at q.numbers e ≢ pos 0 → HaveLength n qs
    → (IsSolution v qs → IsSolution v (exchanged (solved e q) e place qs)) × (IsSolution v (exchanged (solved e q) e place qs) → IsSolution v qs)

-- rows and bounds determine the tableau after so many pivots, so the run is one
abbrev pub RunsAreOne : Type 0
RunsAreOne = (rows : List Form) (bounds : List Range) (made : ℕ) (qs rs : List Equation) → RunsTo (first_tableau rows bounds) made qs → RunsTo (first_tableau rows bounds) made rs → qs ≡ rs
