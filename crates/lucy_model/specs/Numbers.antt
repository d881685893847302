-- Lists of whole numbers, one for each leaf.
use Rattle.std.specs.Prelude.{ℕ, ℤ, pos, ◌<◌, ◌≤◌, List, All, slice_index_or, unsigned_abs}

-- the number at a place, 0 past the end
abbrev pub number_at : List ℤ → ℕ → ℤ
number_at xs place = slice_index_or xs place (pos 0)

-- each number is below `end` in size
abbrev pub AllBelow : ℕ → List ℤ → Type 0
AllBelow end xs = All (λ x. unsigned_abs x < end) xs

-- a number is at most `most` in size
pub record IsWithin (most : ℕ) (x : ℤ) : Type 0 where
  pub size : unsigned_abs x ≤ most
