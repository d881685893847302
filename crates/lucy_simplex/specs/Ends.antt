-- What lines say of the run, and how it ends.
use Rattle.std.specs.Prelude.{◌≡◌, ℕ, suc, ◌<◌, ◌≤◌, pos, ◌≤ℤ◌, ◌<ℤ◌, List, slice_get, Option, Some, None}
use Rattle.lucy_clauses.specs.Sums.{number_at}
use Rattle.lucy_simplex.specs.declared.lines.Line.{Line}
use Rattle.lucy_simplex.specs.declared.runs.Look.{Look}
use Rattle.lucy_simplex.specs.declared.runs.Look.TheVariants.{Point, Stuck, Improves}
use Rattle.lucy_simplex.specs.Tableaus.{Equation, IsTableau}
use Rattle.lucy_simplex.specs.Reading.{AreRead}
use Rattle.lucy_simplex.specs.Runs.{IsLowest, CanImprove, Leaves, IsNext, RunsTo, HasNoAuxiliary, IsStuck, IsStepTooWide}

-- the least place behind that of the auxiliary variable with a number below 0
abbrev pub FirstBelow : Equation → Option ℕ → Type 0
FirstBelow q None = (k : ℕ) → 1 < k → pos 0 ≤ℤ number_at q.numbers k
FirstBelow q (Some e) = (1 < e) × (number_at q.numbers e <ℤ pos 0) × ((k : ℕ) → 1 < k → k < e → pos 0 ≤ℤ number_at q.numbers k)

abbrev pub LooksLike : List Equation → Look → Type 0
LooksLike qs Point = HasNoAuxiliary qs
LooksLike qs (Stuck place) = IsStuck place qs
LooksLike qs (Improves auxiliary e) = CanImprove auxiliary e qs

abbrev pub HasLowest : ℕ → List Equation → Type 0
HasLowest place qs = (q : Equation) × IsLowest place q qs

abbrev pub HasLeaving : ℕ → ℕ → List Equation → Type 0
HasLeaving e place qs = (q : Equation) × Leaves e place q qs

-- a variable improves yet
abbrev pub IsOpen : Look → Type 0
IsOpen Point = ⊥
IsOpen (Stuck place) = ⊥
IsOpen (Improves auxiliary e) = Unit {0}

-- lines that stand for the tableau after at least one pivot and at most `turns`; after all of them where a variable improves yet
pub record Ended (first : List Equation) (turns : ℕ) (ls : List Line) (look : Look) : Type 0 where
  pub made : ℕ
  pub some : 0 < made
  pub within : made ≤ turns
  pub qs : List Equation
  pub read : AreRead qs ls
  pub runs : RunsTo first made qs
  pub looks : LooksLike qs look
  pub open_at_last : IsOpen look → made ≡ turns

-- lines that stand for the tableau after a pivot that is not the first
pub record HasNext (qs : List Equation) (ls : List Line) : Type 0 where
  pub rs : List Equation
  pub read : AreRead rs ls
  pub next : (made : ℕ) → IsNext (suc made) qs rs

-- a fraction of the n-th equation at a pivot that is not the first
abbrev pub IsLaterTooWide : List Equation → ℕ → Type 0
IsLaterTooWide qs n = (made : ℕ) → IsStepTooWide (suc made) qs n

-- lines that stand for the tableau after so many pivots
pub record HasRun (first : List Equation) (made : ℕ) (ls : List Line) : Type 0 where
  pub qs : List Equation
  pub read : AreRead qs ls
  pub runs : RunsTo first made qs

-- each equation has the auxiliary variable once
abbrev pub HaveOnes : List Equation → Type 0
HaveOnes qs = (i : ℕ) (q : Equation) → slice_get qs i ≡ Some q → number_at q.numbers 1 ≡ pos 1

-- lines that stand for a tableau in which the auxiliary variable may enter at that place
pub record Begins (n place : ℕ) (ls : List Line) : Type 0 where
  pub qs : List Equation
  pub read : AreRead qs ls
  pub tableau : IsTableau n qs
  pub ones : HaveOnes qs
  pub lowest : HasLowest place qs
