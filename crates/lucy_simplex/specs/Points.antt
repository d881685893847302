-- The point of a tableau: nonbasic variables 0, basic variables their constants.
use Rattle.std.specs.Prelude.{◌≡◌, ◌≢◌, ℕ, ◌+◌, ◌-◌, ◌<◌, nat_lt, length, slice_get, Some, ℤ, pos, ◌*ℤ◌, List, [], ◌∷◌, map, if◌then◌else◌}
use Rattle.lucy_fraction.specs.Rationals.{Ratio, IsTooWide, sum}
use Rattle.lucy_clauses.specs.declared.formulas.Range.{Range}
use Rattle.lucy_simplex.specs.Systems.{AreOver, lows_of}
use Rattle.lucy_simplex.specs.Tableaus.{Equation, constant}
use Rattle.lucy_simplex.specs.First.{bumped}
use Rattle.lucy_simplex.specs.declared.lines.Line.{Line}
use Rattle.lucy_simplex.specs.Reading.{Reads}
use Rattle.lucy_simplex.specs.Steps.{IsOver, AreNumbers}

-- each constant brought to one denominator
abbrev pub AreShares : ℕ → List Equation → List ℤ → Type 0
AreShares w [] [] = Unit {0}
AreShares w [] (y ∷ ys) = ⊥
AreShares w (q ∷ qs) [] = ⊥
AreShares w (q ∷ qs) (y ∷ ys) = (pos q.below *ℤ y ≡ constant q *ℤ pos w) × AreShares w qs ys

pub record HaveShares (qs : List Equation) : Type 0 where
  pub common : ℕ
  pub positive : 0 < common
  pub tops : List ℤ
  pub are : AreShares common qs tops

-- a share added to its variable, where the basic variable is one of the n (places 2 and on)
abbrev pub moved : ℕ → Equation → ℤ → List ℤ → List ℤ
moved n q y xs = if nat_lt q.basic 2 then xs else bumped xs (q.basic - 2) y

-- the numerators of the variables, moved from those of the lower bounds
abbrev pub moved_all : ℕ → List Equation → List ℤ → List ℤ → List ℤ
moved_all n [] ys xs = xs
moved_all n (q ∷ qs) [] xs = xs
moved_all n (q ∷ qs) (y ∷ ys) xs = moved_all n qs ys (moved n q y xs)

-- the point has, over one denominator, the lower bounds and the basic variables' constants
pub record IsBasicPoint (n : ℕ) (bounds : List Range) (qs : List Equation) (point : List Ratio) : Type 0 where
  pub shares : HaveShares qs
  pub over : AreOver shares.common point (moved_all n qs shares.tops (map (λ (x : ℤ). pos shares.common *ℤ x) (lows_of bounds)))

-- the new point has the line's constant, as a share, at its basic variable
abbrev pub Moves : Line → List Ratio → List Ratio → Type 0
Moves l old new = (q : Equation) (w n : ℕ) (y : ℤ) (xs : List ℤ) → Reads q l → 0 < w → pos q.below *ℤ y ≡ constant q *ℤ pos w → AreNumbers w old xs → AreNumbers w new (moved n q y xs)

-- a line's move changes no other number than that of its basic variable
pub record KeepsOthers (l : Line) (old new : List Ratio) : Type 0 where
  pub count : length new ≡ length old
  pub others : (v : ℕ) → l.basic ≢ 2 + v → slice_get new v ≡ slice_get old v

-- the sum of the basic variable's number and the line's first is too wide
pub record IsMoveTooWide (l : Line) (point : List Ratio) : Type 0 where
  pub variable : ℕ
  pub basic_is : l.basic ≡ 2 + variable
  pub number : Ratio
  pub there : slice_get point variable ≡ Some number
  pub first : Ratio
  pub first_there : slice_get l.numbers.items 0 ≡ Some first
  pub wide : IsTooWide (sum number first)

-- the number of a variable at its lower bound
pub record IsAtLow (b : Range) (v : ℕ) (point : List Ratio) : Type 0 where
  pub number : Ratio
  pub there : slice_get point v ≡ Some number
  pub over : IsOver 1 number b.lo

-- each variable that is basic in none of the first lines is at its lower bound
pub record AreUnmoved (ls : List Line) (i : ℕ) (bounds : List Range) (point : List Ratio) : Type 0 where
  pub count : length point ≡ length bounds
  pub each : (v : ℕ) (b : Range) → slice_get bounds v ≡ Some b → ((k : ℕ) (l : Line) → k < i → slice_get ls k ≡ Some l → l.basic ≢ 2 + v) → IsAtLow b v point
