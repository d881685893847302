-- Multipliers: fractions over their common denominator.
use Rattle.std.specs.Prelude.{◌≡◌, ℕ, ◌+◌, ◌/◌, ◌<◌, ◌≤◌, ◌^◌, ℤ, pos, ◌*ℤ◌, List, [], ◌∷◌, take, drop}
use Prim.Native.Nat.{◌∣◌}
use Rattle.lucy_fraction.specs.Rationals.{Ratio}

-- the least common multiple of two numbers, within the limit of a fraction
pub record IsMultiple (a b w : ℕ) : Type 0 where
  pub positive : 0 < w
  pub small : w ≤ 2 ^ 62
  pub of_a : a ∣ w
  pub of_b : b ∣ w
  pub least : (v : ℕ) → 0 < v → a ∣ v → b ∣ v → w ∣ v

-- every common multiple of two numbers is past the limit
abbrev pub AreMultiplesWide : ℕ → ℕ → Type 0
AreMultiplesWide a b = (v : ℕ) → 0 < v → a ∣ v → b ∣ v → 2 ^ 62 < v

-- each bottom divides w
abbrev pub Divide : ℕ → List Ratio → Type 0
Divide w [] = Unit {0}
Divide w (p ∷ ps) = (p.bottom ∣ w) × Divide w ps

-- v times the fraction is whole
abbrev pub MakesWhole : ℕ → Ratio → Type 0
MakesWhole v p = (m : ℤ) × (pos v *ℤ p.top ≡ m *ℤ pos p.bottom)

abbrev pub MakesAllWhole : ℕ → List Ratio → Type 0
MakesAllWhole v [] = Unit {0}
MakesAllWhole v (p ∷ ps) = MakesWhole v p × MakesAllWhole v ps

-- the least common denominator, within the limit of a fraction
pub record IsCommon (w : ℕ) (ps : List Ratio) : Type 0 where
  pub positive : 0 < w
  pub small : w ≤ 2 ^ 62
  pub divide : Divide w ps
  pub least : (v : ℕ) → 0 < v → MakesAllWhole v ps → w ∣ v

-- what makes the fractions of the variables and of the slacks up to the n-th equation's whole is past the limit
abbrev pub AreCommonsWide : ℕ → List Ratio → ℕ → Type 0
AreCommonsWide variables ps n = (v : ℕ) → 0 < v → MakesAllWhole v (take (variables + n + 1) ps) → 2 ^ 62 < v

-- each is w times the fraction at its place
abbrev pub AreMultipliers : ℕ → List Ratio → List ℤ → Type 0
AreMultipliers w [] [] = Unit {0}
AreMultipliers w [] (m ∷ ms) = ⊥
AreMultipliers w (p ∷ ps) [] = ⊥
AreMultipliers w (p ∷ ps) (m ∷ ms) = (m ≡ p.top *ℤ pos (w / p.bottom)) × AreMultipliers w ps ms

-- the multipliers of a line's numbers: the variables, the slacks of rows, the slacks of bounds
pub record HasMultipliers (n m : ℕ) (ps : List Ratio) (lows rows highs : List ℤ) : Type 0 where
  pub common : ℕ
  pub is_common : IsCommon common (drop 2 ps)
  pub lows_are : AreMultipliers common (take n (drop 2 ps)) lows
  pub rows_are : AreMultipliers common (take m (drop (2 + n) ps)) rows
  pub highs_are : AreMultipliers common (drop (2 + n + m) ps) highs
