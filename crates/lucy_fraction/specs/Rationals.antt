-- Rational numbers as ratios of an integer and a natural number above 0.
use Rattle.std.specs.Prelude.{◌≡◌, ℕ, suc, ◌*◌, ◌^◌, ◌<◌, ◌≤◌, ℤ, pos, negsuc, ◌+ℤ◌, ◌*ℤ◌, neg_ℤ, unsigned_abs, Bool, if◌then◌else◌, Result, Ok, Err}
use Rattle.std.specs.Int.{IsGcd}

pub record Ratio : Type 0 where
  pub top : ℤ
  pub bottom : ℕ

abbrev pub ratio : ℤ → ℕ → Ratio
ratio n d = record { top = n; bottom = d }

-- two ratios are one rational number: their cross products are equal
abbrev pub IsSame : Ratio → Ratio → Type 0
IsSame p q = p.top *ℤ pos q.bottom ≡ q.top *ℤ pos p.bottom

-- the bottom is above 0, and 1 is the greatest common divisor of top and bottom
pub record IsReduced (p : Ratio) : Type 0 where
  pub positive : 0 < p.bottom
  pub coprime : IsGcd (unsigned_abs p.top) p.bottom 1

-- top and bottom are at most 2^62 in size
pub record IsWithin (p : Ratio) : Type 0 where
  pub top : unsigned_abs p.top ≤ 2 ^ 62
  pub bottom : p.bottom ≤ 2 ^ 62

-- p is the reduced form of q
pub record IsReducedForm (p q : Ratio) : Type 0 where
  pub reduced : IsReduced p
  pub same : IsSame p q

-- the reduced form of q is past the limit
pub record IsTooWide (q : Ratio) : Type 0 where
  pub form : Ratio
  pub form_is : IsReducedForm form q
  pub wide : ¬ IsWithin form

-- the reduced form of the exact result, or that it is past the limit
abbrev pub Gives : {E : Type 0} → Result Ratio E → Ratio → Type 0
Gives (Ok p) exact = IsReducedForm p exact × IsWithin p
Gives (Err e) exact = IsTooWide exact

abbrev pub sum : Ratio → Ratio → Ratio
sum p q = ratio (p.top *ℤ pos q.bottom +ℤ q.top *ℤ pos p.bottom) (p.bottom * q.bottom)

abbrev pub opposite : Ratio → Ratio
opposite p = ratio (neg_ℤ p.top) p.bottom

abbrev pub difference : Ratio → Ratio → Ratio
difference p q = sum p (opposite q)

abbrev pub product : Ratio → Ratio → Ratio
product p q = ratio (p.top *ℤ q.top) (p.bottom * q.bottom)

-- the bottom over the top, with the sign above
abbrev pub inverse_by : ℤ → ℕ → Ratio
inverse_by (pos n) d = ratio (pos d) n
inverse_by (negsuc n) d = ratio (neg_ℤ (pos d)) (suc n)

abbrev pub inverse : Ratio → Ratio
inverse p = inverse_by p.top p.bottom

abbrev pub quotient : Ratio → Ratio → Ratio
quotient p q = product p (inverse q)

abbrev pub whole_ratio : ℤ → Ratio
whole_ratio n = ratio n 1

-- the integer of that size, below 0 or not
abbrev pub signed_by : Bool → ℕ → ℤ
signed_by below size = if below then neg_ℤ (pos size) else pos size

-- two numbers in the lowest terms: divided by a common divisor, with no other left
pub record IsLowest (size bottom s d : ℕ) : Type 0 where
  pub common : ℕ
  pub size_is : size ≡ common * s
  pub bottom_is : bottom ≡ common * d
  pub coprime : IsGcd s d 1
