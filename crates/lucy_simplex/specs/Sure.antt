-- The two cases that are answered first.
use Rattle.std.specs.Prelude.{Bool, ℤ, pos, neg_ℤ, ◌-ℤ◌, ◌≤ℤ◌, int_le, int_lt, if◌then◌else◌, List, [], ◌∷◌, map}
use Rattle.lucy_clauses.specs.declared.parts.Part.{Part}
use Rattle.lucy_clauses.specs.declared.formulas.Range.{Range}
use Rattle.lucy_clauses.specs.Sums.{Form, sum_at}
use Rattle.std.specs.List.{list_all}
use Rattle.lucy_simplex.specs.declared.rows.Side.{Side}
use Rattle.lucy_simplex.specs.declared.rows.Side.TheVariants.{Low, High}
use Rattle.lucy_simplex.specs.Systems.{lows_of, highs_of}

-- a factor above 0 takes the lower bound, one below 0 the upper bound
abbrev pub low_part : Part → Part
low_part p = record { variable = p.variable; by = if int_lt p.by (pos 0) then pos 0 else p.by }

abbrev pub high_part : Part → Part
high_part p = record { variable = p.variable; by = if int_lt p.by (pos 0) then neg_ℤ p.by else pos 0 }

-- the least value of a sum within the bounds
abbrev pub least_of : List Range → List Part → ℤ
least_of bounds ps = sum_at (map low_part ps) (lows_of bounds) -ℤ sum_at (map high_part ps) (highs_of bounds)

-- the point of all lower bounds satisfies the rows
abbrev pub LowsHold : List Form → List ℤ → Type 0
LowsHold [] los = Unit {0}
LowsHold (r ∷ rs) los = (sum_at r.parts los ≤ℤ r.bound) × LowsHold rs los

abbrev pub AreOrdered : List Range → Type 0
AreOrdered [] = Unit {0}
AreOrdered (b ∷ bs) = (b.lo ≤ℤ b.hi) × AreOrdered bs

-- the number within a range at which a factor's part is the least
abbrev pub least_number : ℤ → Range → ℤ
least_number by b = if int_lt by (pos 0) then b.hi else b.lo

-- the point of all lower bounds satisfies each row
abbrev pub lows_hold : List Form → List Range → Bool
lows_hold rows bounds = list_all (λ (r : Form). int_le (sum_at r.parts (lows_of bounds)) r.bound) rows

-- the least value of the row within the bounds is above its bound
abbrev pub is_alone : List Range → Form → Bool
is_alone bounds r = int_lt r.bound (least_of bounds r.parts)

-- a factor on one side
abbrev pub side_part : Side → Part → Part
side_part Low p = low_part p
side_part High p = high_part p
