-- The states that an assignment gives.
use Rattle.std.specs.Prelude.{ℕ, Bool, false, ◌&&◌, ◌||◌, ℤ, int_lt, List, ◌∷◌, take, drop, if◌then◌else◌}
use Rattle.std.specs.Ordering.{int_eq}

-- numbers come before others in the order of dictionaries
abbrev pub comes_before : List ℤ → List ℤ → Bool
comes_before (x ∷ xs) (y ∷ ys) = int_lt x y || (int_eq x y && comes_before xs ys)
comes_before _ _ = false

-- the first state, and the second
abbrev pub first_state : ℕ → List ℤ → List ℤ
first_state leaves a = take leaves a

abbrev pub second_state : ℕ → List ℤ → List ℤ
second_state leaves a = take leaves (drop leaves a)

-- two states, the one that comes before the other first
abbrev pub ordered : List ℤ → List ℤ → List ℤ × List ℤ
ordered left right = if comes_before right left then (right, left) else (left, right)

abbrev pub pair_of : ℕ → List ℤ → List ℤ × List ℤ
pair_of leaves a = ordered (first_state leaves a) (second_state leaves a)
