-- The least quotient of equations, the least basic variable among equals.
use Rattle.std.specs.Prelude.{◌≡◌, ℕ, ◌<◌, ◌≤◌, nat_lt, Bool, true, false, ℤ, pos, neg_ℤ, ◌*ℤ◌, ◌≤ℤ◌, ◌<ℤ◌, List, slice_get, Option, Some, None, if◌then◌else◌}
use Rattle.std.specs.Ordering.{int_cmp}
use Rattle.std.specs.declared.cmp.Ordering.{Ordering}
use Rattle.std.specs.declared.cmp.Ordering.TheVariants.{Less, Equal, Greater}
use Rattle.lucy_fraction.specs.Rationals.{Ratio}
use Rattle.lucy_clauses.specs.Sums.{number_at}
use Rattle.lucy_simplex.specs.declared.quotients.Best.{Best}
use Rattle.lucy_simplex.specs.Tableaus.{Equation, constant}
use Rattle.lucy_simplex.specs.Steps.{IsOver}

-- how fast a basic variable falls where the entering one grows
abbrev pub fall : ℕ → Equation → ℤ
fall e q = neg_ℤ (number_at q.numbers e)

abbrev pub own_below : Equation → ℤ
own_below q = pos q.below

-- p is the equation's constant over its weight, which is above 0
pub record IsQuotient (weight : Equation → ℤ) (q : Equation) (p : Ratio) : Type 0 where
  pub by : ℕ
  pub positive : 0 < by
  pub weighs : weight q ≡ pos by
  pub over : IsOver by p (constant q)

-- a quotient for an equation whose weight is above 0, none for another
abbrev pub QuotientOf : (Equation → ℤ) → Equation → Option Ratio → Type 0
QuotientOf weight q None = weight q ≤ℤ pos 0
QuotientOf weight q (Some p) = IsQuotient weight q p

-- the quotient of q is at most that of p, by cross products; where they are equal, the basic variable of q is
pub record ComesFirst (weight : Equation → ℤ) (q p : Equation) : Type 0 where
  pub least : (constant q *ℤ weight p) ≤ℤ (constant p *ℤ weight q)
  pub among_equals : constant q *ℤ weight p ≡ constant p *ℤ weight q → q.basic ≤ p.basic

-- the best among the first i equations
abbrev pub IsBest : (Equation → ℤ) → List Equation → ℕ → Option Best → Type 0
IsBest weight qs i None = (k : ℕ) (p : Equation) → k < i → slice_get qs k ≡ Some p → weight p ≤ℤ pos 0
IsBest weight qs i (Some b) = (q : Equation) × (slice_get qs b.place ≡ Some q) × (b.basic ≡ q.basic) × IsQuotient weight q b.quotient
    × ((k : ℕ) (p : Equation) → k < i → slice_get qs k ≡ Some p → pos 0 <ℤ weight p → ComesFirst weight q p)

abbrev pub is_earlier : Ordering → ℕ → ℕ → Bool
is_earlier Less a b = true
is_earlier Equal a b = nat_lt a b
is_earlier Greater a b = false

-- the best, with one more quotient
abbrev pub best_of : Option Best → ℕ → ℕ → Option Ratio → Option Best
best_of old place basic None = old
best_of None place basic (Some p) = Some (record { place = place; basic = basic; quotient = p })
best_of (Some b) place basic (Some p) =
    if is_earlier (int_cmp (p.top *ℤ pos b.quotient.bottom) (b.quotient.top *ℤ pos p.bottom)) basic b.basic then Some (record { place = place; basic = basic; quotient = p }) else Some b
