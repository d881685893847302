-- What an answer says.
use Rattle.std.specs.Prelude.{◌≡◌, ◌⊎◌, ℕ, ◌<◌, ◌≤◌, true, false, List}
use Rattle.std.specs.List.{list_any}
use Rattle.lucy_clauses.specs.declared.formulas.Range.{Range}
use Rattle.lucy_clauses.specs.Sums.{Form}
use Rattle.lucy_simplex.specs.declared.solving.Answer.{Answer}
use Rattle.lucy_simplex.specs.declared.solving.Answer.TheVariants.{Point, Farkas, Wide, Turns}
use Rattle.lucy_simplex.specs.Systems.{Satisfies, Refutes}
use Rattle.lucy_simplex.specs.Tableaus.{Equation}
use Rattle.lucy_simplex.specs.First.{first_tableau}
use Rattle.lucy_simplex.specs.Runs.{RunsTo, CanImprove, HasNoAuxiliary, IsStuck}
use Rattle.lucy_simplex.specs.Sure.{lows_hold, is_alone}
use Rattle.lucy_simplex.specs.Causes.{GivesUp}

abbrev pub IsPoint : Answer → Type 0
IsPoint (Point point) = Unit {0}
IsPoint (Farkas m) = ⊥
IsPoint (Wide n) = ⊥
IsPoint Turns = ⊥

abbrev pub IsFarkas : Answer → Type 0
IsFarkas (Point point) = ⊥
IsFarkas (Farkas m) = Unit {0}
IsFarkas (Wide n) = ⊥
IsFarkas Turns = ⊥

-- the run ends after at least one pivot and at most `turns`
pub record HasEnd (rows : List Form) (bounds : List Range) (turns : ℕ) (End : List Equation → Type 0) : Type 0 where
  pub made : ℕ
  pub some : 0 < made
  pub within : made ≤ turns
  pub qs : List Equation
  pub runs : RunsTo (first_tableau rows bounds) made qs
  pub ends : End qs

-- neither sure case stands, and after so many pivots no answer does: where there was one, a variable improves yet
pub record StandsOpen (rows : List Form) (bounds : List Range) (turns : ℕ) : Type 0 where
  pub lows_break : lows_hold rows bounds ≡ false
  pub none_alone : list_any (is_alone bounds) rows ≡ false
  pub qs : List Equation
  pub runs : RunsTo (first_tableau rows bounds) turns qs
  pub improves : 0 < turns → (auxiliary : ℕ) × (e : ℕ) × CanImprove auxiliary e qs

abbrev pub IsStuckSomewhere : List Equation → Type 0
IsStuckSomewhere qs = (place : ℕ) × IsStuck place qs

-- a point satisfies the rows and bounds: that of the lower bounds, or the auxiliary variable has left within the pivots;
-- multipliers refute them: those of a row alone, or nothing improves the auxiliary variable within the pivots;
-- it gives up only where a fraction of that equation is too wide; after all pivots no answer stands
abbrev pub IsRight : List Form → List Range → ℕ → Answer → Type 0
IsRight rows bounds turns (Point point) = Satisfies rows bounds point.items × ((lows_hold rows bounds ≡ true) ⊎ HasEnd rows bounds turns HasNoAuxiliary)
IsRight rows bounds turns (Farkas m) = Refutes rows bounds m.rows.items m.lows.items m.highs.items × ((list_any (is_alone bounds) rows ≡ true) ⊎ HasEnd rows bounds turns IsStuckSomewhere)
IsRight rows bounds turns (Wide n) = GivesUp rows bounds turns n
IsRight rows bounds turns Turns = StandsOpen rows bounds turns
