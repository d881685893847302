-- Tableaus: homogeneous equations over integers, each read over a denominator of its own.
use Rattle.std.specs.Prelude.{◌≡◌, ◌≢◌, ℕ, zero, suc, ◌*◌, ◌<◌, ℤ, pos, negsuc, neg_ℤ, ◌+ℤ◌, ◌*ℤ◌, ◌≤ℤ◌, ◌<ℤ◌, List, [], ◌∷◌, length, map, slice_get, Some}
use Rattle.lucy_clauses.specs.Sums.{number_at}
use Rattle.lucy_simplex.specs.Systems.{dot}

-- place 0 is the constant, every other place a variable; the number at `basic` is -below.
-- Divided by `below` it says: the basic variable is the constant and the other variables with their factors.
pub record Equation : Type 0 where
  pub below : ℕ
  pub basic : ℕ
  pub numbers : List ℤ

abbrev pub equation : ℕ → ℕ → List ℤ → Equation
equation d b ns = record { below = d; basic = b; numbers = ns }

-- values of all places make each equation 0; they are over the value of place 0
abbrev pub IsSolution : List ℤ → List Equation → Type 0
IsSolution v [] = Unit {0}
IsSolution v (q ∷ qs) = (dot q.numbers v ≡ pos 0) × IsSolution v qs

abbrev pub HaveLength : ℕ → List Equation → Type 0
HaveLength n [] = Unit {0}
HaveLength n (q ∷ qs) = (length q.numbers ≡ n) × HaveLength n qs

-- d times the numbers and f times others
abbrev pub combined : ℕ → ℤ → List ℤ → List ℤ → List ℤ
combined d f [] ys = []
combined d f (x ∷ xs) [] = []
combined d f (x ∷ xs) (y ∷ ys) = (pos d *ℤ x +ℤ f *ℤ y) ∷ combined d f xs ys

-- an equation solved for the entering variable, whose factor is given: the same equation over another denominator
abbrev pub solved_by : ℕ → ℤ → List ℤ → Equation
solved_by e (pos n) ns = equation n e (map neg_ℤ ns)
solved_by e (negsuc n) ns = equation (suc n) e ns

abbrev pub solved : ℕ → Equation → Equation
solved e q = solved_by e (number_at q.numbers e) q.numbers

-- an equation with the solved one put in for the entering variable
abbrev pub eliminated : Equation → ℕ → Equation → Equation
eliminated s e q = equation (q.below * s.below) q.basic (combined s.below (number_at q.numbers e) q.numbers s.numbers)

-- the tableau with the solved equation at a place, and put into the others
abbrev pub exchanged : Equation → ℕ → ℕ → List Equation → List Equation
exchanged s e place [] = []
exchanged s e zero (q ∷ qs) = s ∷ map (eliminated s e) qs
exchanged s e (suc place) (q ∷ qs) = eliminated s e q ∷ exchanged s e place qs

-- an equation of n places: its basic variable has the number -below
pub record IsEquation (n : ℕ) (q : Equation) : Type 0 where
  pub length_is : length q.numbers ≡ n
  pub positive : 0 < q.below
  pub own : number_at q.numbers q.basic ≡ neg_ℤ (pos q.below)
  pub basic_above : 0 < q.basic
  pub basic_below : q.basic < n

-- equations of n places, in each of which the basic variables of the others have the number 0
pub record IsTableau (n : ℕ) (qs : List Equation) : Type 0 where
  pub each : (i : ℕ) (q : Equation) → slice_get qs i ≡ Some q → IsEquation n q
  pub apart : (i j : ℕ) (p q : Equation) → slice_get qs i ≡ Some p → slice_get qs j ≡ Some q → i ≢ j → number_at p.numbers q.basic ≡ pos 0

abbrev pub constant : Equation → ℤ
constant q = number_at q.numbers 0

-- no constant is below 0, so the values of the basic variables are not
pub record IsFeasible (qs : List Equation) : Type 0 where
  pub each : (i : ℕ) (q : Equation) → slice_get qs i ≡ Some q → pos 0 ≤ℤ constant q

-- the equation q binds the entering variable: its factor is below 0, and no quotient is less than its own
pub record IsBinding (e : ℕ) (q : Equation) (qs : List Equation) : Type 0 where
  pub falls : number_at q.numbers e <ℤ pos 0
  pub least : (i : ℕ) (p : Equation) → slice_get qs i ≡ Some p → number_at p.numbers e <ℤ pos 0 → (constant q *ℤ neg_ℤ (number_at p.numbers e)) ≤ℤ (constant p *ℤ neg_ℤ (number_at q.numbers e))
