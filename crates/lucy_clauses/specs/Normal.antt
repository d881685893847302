-- The normal form of an inequality.
use Rattle.std.specs.Prelude.{◌≡◌, ℕ, ◌<◌, Bool, true, not, ◌&&◌, ◌==◌, ◌↔◌, IsTrue, ℤ, pos, unsigned_abs, List, [], ◌∷◌, map, length}
use Rattle.std.specs.Int.{int_div_euclid}
use Prim.Native.Nat.{◌∣◌}
use Rattle.lucy_clauses.specs.declared.parts.Part.{Part}
use Rattle.lucy_clauses.specs.Sums.{Form, scaled}
use Rattle.lucy_clauses.specs.Parts.{is_empty, ascends, none_zero, all_within, gathered}
use Rattle.lucy_clauses.specs.Dividing.{common_divisor}

-- d divides each factor
abbrev pub DividesAll : ℕ → List Part → Type 0
DividesAll d [] = Unit {0}
DividesAll d (p ∷ ps) = (d ∣ unsigned_abs p.by) × DividesAll d ps

-- the greatest common divisor of the factors
pub record IsCommonDivisor (ps : List Part) (g : ℕ) : Type 0 where
  pub divides : DividesAll g ps
  pub greatest : (d : ℕ) → DividesAll d ps → d ∣ g

-- variables ascending, factors within the limit and none of them 0; there may be no part
pub record IsGathered (ps : List Part) : Type 0 where
  pub ascending : ascends ps ≡ true
  pub nonzero : none_zero ps ≡ true
  pub within : all_within ps ≡ true

-- at least one part, variables ascending, factors within the limit and none of them 0, with no common divisor but 1
pub record IsNormal (ps : List Part) : Type 0 where
  pub some : 0 < length ps
  pub ascending : ascends ps ≡ true
  pub nonzero : none_zero ps ≡ true
  pub within : all_within ps ≡ true
  pub coprime : (d : ℕ) → DividesAll d ps → d ≡ 1

-- the same as a test
abbrev pub is_normal : List Part → Bool
is_normal ps = not (is_empty ps) && ascends ps && none_zero ps && all_within ps && common_divisor 0 ps == 1

-- the test passes exactly where the parts are normal
abbrev pub NormalTest : Type 0
NormalTest = (ps : List Part) → IsTrue (is_normal ps) ↔ IsNormal ps

-- the normal form of `sum of the parts <= bound`: the gathered parts are `by` times those of the form, and the bound
-- is divided by it and rounded down
pub record IsNormalForm (ps : List Part) (bound : ℤ) (t : Form) : Type 0 where
  pub by : ℕ
  pub positive : 0 < by
  pub parts_are : map (scaled by) t.parts ≡ gathered ps
  pub bound_is : t.bound ≡ int_div_euclid bound (pos by)
  pub normal : IsNormal t.parts
