-- What is proved of points, multipliers and tableaus, statement by statement.
use Rattle.std.specs.Prelude.{◌≡◌, ◌≢◌, ℕ, ◌+◌, ◌*◌, ◌<◌, ℤ, pos, neg_ℤ, ◌*ℤ◌, ◌≤ℤ◌, ◌<ℤ◌, true, List, ◌∷◌, ◌++◌, length, map, slice_get, Some}
use Rattle.std.specs.List.{list_all}
use Rattle.std.specs.List.{AllZip}
use Rattle.lucy_fraction.specs.Rationals.{Ratio, opposite}
use Rattle.lucy_simplex.specs.Steps.{IsDivided, AreAdded, IsOver, AreNumbers}
use Rattle.lucy_clauses.specs.declared.formulas.Range.{Range}
use Rattle.lucy_clauses.specs.Sums.{Form, number_at}
use Rattle.lucy_clauses.specs.Formulas.{names_below}
use Rattle.lucy_simplex.specs.Systems.{Satisfies, Refutes, NoneNegative, dot, AreOver, lows_of}
use Rattle.lucy_simplex.specs.Tableaus.{Equation, IsSolution, solved_by, solved, eliminated, combined, exchanged, IsTableau, IsFeasible, IsBinding, constant}
use Rattle.lucy_simplex.specs.Runs.{IsLowest, Leaves, RunsTo}
use Rattle.lucy_simplex.specs.First.{places_of, first_tableau, bumped, zeros, dense}
use Rattle.lucy_simplex.specs.Sure.{low_part, high_part, least_of, LowsHold, AreOrdered}
use Rattle.lucy_simplex.specs.Points.{HaveShares, IsBasicPoint}

-- the equation of the auxiliary variable has a constant above 0 and no factor below 0: its factors are multipliers
pub record IsRefuting (rows : List Form) (bounds : List Range) (c aux : ℤ) (lows ms highs : List ℤ) : Type 0 where
  pub rows_count : length ms ≡ length rows
  pub lows_count : length lows ≡ length bounds
  pub highs_count : length highs ≡ length bounds
  pub rows_sign : NoneNegative ms
  pub lows_sign : NoneNegative lows
  pub highs_sign : NoneNegative highs
  pub constant : pos 0 <ℤ c
  pub follows : (v : List ℤ) → IsSolution v (first_tableau rows bounds) → dot (c ∷ aux ∷ (lows ++ (ms ++ highs))) v ≡ pos 0

abbrev pub NoImprovementRefutes : Type 0
NoImprovementRefutes = (rows : List Form) (bounds : List Range) (c aux : ℤ) (lows ms highs : List ℤ) → list_all (λ (r : Form). names_below (length bounds) r.parts) rows ≡ true
    → IsRefuting rows bounds c aux lows ms highs → Refutes rows bounds ms lows highs

-- a pivot makes a tableau again
abbrev pub PivotKeepsTableau : Type 0
PivotKeepsTableau = (n place e : ℕ) (q : Equation) (qs : List Equation) → IsTableau n qs → slice_get qs place ≡ Some q → number_at q.numbers e ≢ pos 0 → 0 < e → e < n → IsTableau n (exchanged (solved e q) e place qs)

-- a pivot at an equation that binds keeps the constants from falling below 0
abbrev pub PivotKeepsFeasible : Type 0
PivotKeepsFeasible = (n place e : ℕ) (q : Equation) (qs : List Equation) → IsTableau n qs → IsFeasible qs → slice_get qs place ≡ Some q → IsBinding e q qs → IsFeasible (exchanged (solved e q) e place qs)

-- the constants of a tableau have a common denominator
abbrev pub SharesExist : Type 0
SharesExist = (n : ℕ) (qs : List Equation) → IsTableau n qs → HaveShares qs

-- where the auxiliary variable is not basic and no constant is below 0, the point of the tableau satisfies rows and bounds
pub record IsPointing (rows : List Form) (bounds : List Range) (qs : List Equation) : Type 0 where
  pub tableau : IsTableau (2 + (length bounds + (length rows + length bounds))) qs
  pub feasible : IsFeasible qs
  pub no_auxiliary : (i : ℕ) (q : Equation) → slice_get qs i ≡ Some q → q.basic ≢ 1
  pub follows : (v : List ℤ) → IsSolution v qs → IsSolution v (first_tableau rows bounds)

abbrev pub BasicPointSatisfies : Type 0
BasicPointSatisfies = (rows : List Form) (bounds : List Range) (qs : List Equation) (point : List Ratio) → list_all (λ (r : Form). names_below (length bounds) r.parts) rows ≡ true
    → IsPointing rows bounds qs → IsBasicPoint (length bounds) bounds qs point → Satisfies rows bounds point

-- the fractions of an equation, divided by the negative of one, are those of the solved equation
abbrev pub DividedIsSolved : Type 0
DividedIsSolved = (d e : ℕ) (x : ℤ) (f : Ratio) (ps rs : List Ratio) (xs : List ℤ) → 0 < d → x ≢ pos 0 → IsOver d f x → AreNumbers d ps xs → AllZip (IsDivided (opposite f)) rs ps
    → AreNumbers ((solved_by e x xs).below) rs ((solved_by e x xs).numbers)

-- the fractions of two equations, added up, are those of the combined one
abbrev pub AddedIsCombined : Type 0
AddedIsCombined = (b d : ℕ) (x : ℤ) (f : Ratio) (ns ps rs : List Ratio) (xs ys : List ℤ) → 0 < b → 0 < d → IsOver b f x → AreNumbers b ns xs → AreNumbers d ps ys → AreAdded f ns ps rs
    → AreNumbers (b * d) rs (combined d x xs ys)

-- multipliers of which a positive multiple refutes refute themselves
abbrev pub MultiplesRefute : Type 0
MultiplesRefute = (d : ℕ) (rows : List Form) (bounds : List Range) (ms lows highs : List ℤ) → 0 < d → Refutes rows bounds (map (λ (x : ℤ). pos d *ℤ x) ms) (map (λ (x : ℤ). pos d *ℤ x) lows) (map (λ (x : ℤ). pos d *ℤ x) highs)
    → Refutes rows bounds ms lows highs

-- a fraction has the sign of its number
abbrev pub SignIsRead : Type 0
SignIsRead = (d : ℕ) (p : Ratio) (x : ℤ) → 0 < d → IsOver d p x → (p.top <ℤ pos 0 → x <ℤ pos 0) × (x <ℤ pos 0 → p.top <ℤ pos 0) × (p.top ≡ pos 0 → x ≡ pos 0)

-- the cross products of two fractions stand to each other as those of the numbers
abbrev pub OrderIsRead : Type 0
OrderIsRead = (d e : ℕ) (p r : Ratio) (x y : ℤ) → 0 < d → 0 < e → IsOver d p x → IsOver e r y
    → ((p.top *ℤ pos r.bottom) ≤ℤ (r.top *ℤ pos p.bottom) → (x *ℤ pos e) ≤ℤ (y *ℤ pos d)) × ((x *ℤ pos e) ≤ℤ (y *ℤ pos d) → (p.top *ℤ pos r.bottom) ≤ℤ (r.top *ℤ pos p.bottom))

-- an equation that does not bind, or whose factor is not below 0, keeps a constant above 0
abbrev pub PivotKeepsPositive : Type 0
PivotKeepsPositive = (n place e i : ℕ) (q p : Equation) (qs : List Equation) → IsTableau n qs → IsFeasible qs → slice_get qs place ≡ Some q → slice_get qs i ≡ Some p → i ≢ place → IsBinding e q qs → pos 0 <ℤ constant p
    → (number_at p.numbers e <ℤ pos 0 → (constant q *ℤ neg_ℤ (number_at p.numbers e)) <ℤ (constant p *ℤ neg_ℤ (number_at q.numbers e))) → pos 0 <ℤ constant (eliminated (solved e q) e p)

-- the first tableau is one
abbrev pub FirstIsTableau : Type 0
FirstIsTableau = (rows : List Form) (bounds : List Range) → IsTableau (2 + (length bounds + (length rows + length bounds))) (first_tableau rows bounds)

-- the auxiliary variable enters at the least constant, which is below 0: then no constant is below 0, and its own is above 0
abbrev pub FirstPivotIsFeasible : Type 0
FirstPivotIsFeasible = (n place : ℕ) (q : Equation) (qs : List Equation) → IsTableau n qs → ((i : ℕ) (p : Equation) → slice_get qs i ≡ Some p → (p.below ≡ 1) × (number_at p.numbers 1 ≡ pos 1))
    → slice_get qs place ≡ Some q → constant q <ℤ pos 0 → ((i : ℕ) (p : Equation) → slice_get qs i ≡ Some p → constant q ≤ℤ constant p)
    → IsFeasible (exchanged (solved 1 q) 1 place qs) × (pos 0 <ℤ constant (solved 1 q))

-- where the lower bounds satisfy the rows, they are a point
abbrev pub LowsSatisfy : Type 0
LowsSatisfy = (rows : List Form) (bounds : List Range) (point : List Ratio) → AreOrdered bounds → LowsHold rows (lows_of bounds) → AreOver 1 point (lows_of bounds) → Satisfies rows bounds point

-- where a row's least value is above its bound, that row and the bounds refute
abbrev pub RowAloneRefutes : Type 0
RowAloneRefutes = (rows : List Form) (bounds : List Range) (i : ℕ) (r : Form) → slice_get rows i ≡ Some r → names_below (length bounds) r.parts ≡ true → r.bound <ℤ least_of bounds r.parts
    → Refutes rows bounds (bumped (zeros (length rows)) i (pos 1)) (dense (length bounds) (map low_part r.parts)) (dense (length bounds) (map high_part r.parts))

-- what a run keeps from its first pivot on: unit columns, no constant below 0, the same solutions, and the auxiliary variable above 0
pub record IsStage (rows : List Form) (bounds : List Range) (qs : List Equation) : Type 0 where
  pub tableau : IsTableau (places_of rows bounds) qs
  pub feasible : IsFeasible qs
  pub forth : (v : List ℤ) → IsSolution v (first_tableau rows bounds) → IsSolution v qs
  pub back : (v : List ℤ) → IsSolution v qs → IsSolution v (first_tableau rows bounds)
  pub above : (i : ℕ) (q : Equation) → slice_get qs i ≡ Some q → q.basic ≡ 1 → pos 0 <ℤ constant q

-- the equation that leaves binds
abbrev pub LeavingBinds : Type 0
LeavingBinds = (e place : ℕ) (q : Equation) (qs : List Equation) → Leaves e place q qs → IsBinding e q qs

-- the first pivot leads to a stage
abbrev pub FirstIsStage : Type 0
FirstIsStage = (rows : List Form) (bounds : List Range) (place : ℕ) (q : Equation) → IsLowest place q (first_tableau rows bounds)
    → IsStage rows bounds (exchanged (solved 1 q) 1 place (first_tableau rows bounds))

-- each other pivot leads from stage to stage
abbrev pub PivotKeepsStage : Type 0
PivotKeepsStage = (rows : List Form) (bounds : List Range) (place e : ℕ) (q : Equation) (qs : List Equation) → IsStage rows bounds qs → 1 < e → Leaves e place q qs
    → IsStage rows bounds (exchanged (solved e q) e place qs)

-- each tableau of a run, the first aside, is a stage
abbrev pub RunsAreStages : Type 0
RunsAreStages = (rows : List Form) (bounds : List Range) (made : ℕ) (qs : List Equation) → 0 < made → RunsTo (first_tableau rows bounds) made qs → IsStage rows bounds qs

-- a stage without the auxiliary variable gives a point
abbrev pub StagePoints : Type 0
StagePoints = (rows : List Form) (bounds : List Range) (qs : List Equation) (point : List Ratio) → list_all (λ (r : Form). names_below (length bounds) r.parts) rows ≡ true → IsStage rows bounds qs
    → ((i : ℕ) (q : Equation) → slice_get qs i ≡ Some q → q.basic ≢ 1) → IsBasicPoint (length bounds) bounds qs point → Satisfies rows bounds point

-- a stage with an equation whose constant is above 0 and whose factors, but that of the auxiliary variable, are not below 0 gives multipliers
abbrev pub StageRefutes : Type 0
StageRefutes = (rows : List Form) (bounds : List Range) (place : ℕ) (q : Equation) (qs : List Equation) (c aux : ℤ) (lows ms highs : List ℤ) → list_all (λ (r : Form). names_below (length bounds) r.parts) rows ≡ true
    → IsStage rows bounds qs → slice_get qs place ≡ Some q → q.numbers ≡ c ∷ aux ∷ (lows ++ (ms ++ highs)) → length lows ≡ length bounds → length ms ≡ length rows → length highs ≡ length bounds
    → pos 0 <ℤ c → NoneNegative lows → NoneNegative ms → NoneNegative highs → Refutes rows bounds ms lows highs
