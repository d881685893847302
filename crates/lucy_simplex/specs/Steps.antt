-- What the calls of a pivot give, number by number.
use Rattle.std.specs.Prelude.{◌⊎◌, ℕ, ◌<◌, ℤ, List, [], ◌∷◌, ◌++◌}
use Rattle.lucy_fraction.specs.Rationals.{Ratio, ratio, IsSame, IsReducedForm, IsTooWide, sum, product, quotient}

-- r is a number divided by another
abbrev pub IsDivided : Ratio → Ratio → Ratio → Type 0
IsDivided by r p = IsReducedForm r (quotient p by)

-- r is a + f p
pub record IsAdded (f a p r : Ratio) : Type 0 where
  pub more : Ratio
  pub product_is : IsReducedForm more (product f p)
  pub sum_is : IsReducedForm r (sum a more)

-- the product of f and p passes the limit, or the sum of a and it
pub record IsSumTooWide (f a p : Ratio) : Type 0 where
  pub more : Ratio
  pub product_is : IsReducedForm more (product f p)
  pub wide : IsTooWide (sum a more)

abbrev pub IsAddedTooWide : Ratio → Ratio → Ratio → Type 0
IsAddedTooWide f a p = IsTooWide (product f p) ⊎ IsSumTooWide f a p

abbrev pub AreAdded : Ratio → List Ratio → List Ratio → List Ratio → Type 0
AreAdded f [] [] [] = Unit {0}
AreAdded f (n ∷ ns) (p ∷ ps) (r ∷ rs) = IsAdded f n p r × AreAdded f ns ps rs
AreAdded f _ _ _ = ⊥

-- a ratio is a number over d
pub record IsOver (d : ℕ) (p : Ratio) (x : ℤ) : Type 0 where
  pub positive : 0 < p.bottom
  pub same : IsSame p (ratio x d)

abbrev pub AreNumbers : ℕ → List Ratio → List ℤ → Type 0
AreNumbers d [] [] = Unit {0}
AreNumbers d [] (x ∷ xs) = ⊥
AreNumbers d (p ∷ ps) [] = ⊥
AreNumbers d (p ∷ ps) (x ∷ xs) = IsOver d p x × AreNumbers d ps xs

-- fractions with those of whole numbers behind them
abbrev pub Appends : List Ratio → List ℤ → List Ratio → Type 0
Appends old xs new = (ys : List ℤ) → AreNumbers 1 old ys → AreNumbers 1 new (ys ++ xs)
