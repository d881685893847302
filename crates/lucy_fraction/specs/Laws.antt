-- Laws of ratios as rational numbers.
use Rattle.std.specs.Prelude.{◌≡◌, ◌≢◌, pos}
use Rattle.lucy_fraction.specs.Rationals.{Ratio, IsSame, IsReduced, sum, product, quotient}

-- two reduced ratios of one rational number have the same top and bottom
abbrev pub ReducedIsUnique : Type 0
ReducedIsUnique = (p q : Ratio) → IsReduced p → IsReduced q → IsSame p q → (p.top ≡ q.top) × (p.bottom ≡ q.bottom)

-- equal ratios have equal sums
abbrev pub SumKeepsSame : Type 0
SumKeepsSame = (p p' q q' : Ratio) → IsSame p p' → IsSame q q' → IsSame (sum p q) (sum p' q')

-- equal ratios have equal products
abbrev pub ProductKeepsSame : Type 0
ProductKeepsSame = (p p' q q' : Ratio) → IsSame p p' → IsSame q q' → IsSame (product p q) (product p' q')

-- dividing and multiplying by a ratio that is not 0 gives the same back
abbrev pub QuotientTimesDivisor : Type 0
QuotientTimesDivisor = (p q : Ratio) → q.top ≢ pos 0 → IsSame (product (quotient p q) q) p
