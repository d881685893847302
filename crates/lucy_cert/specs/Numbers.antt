-- Numbers of clauses.
use Rattle.std.specs.Prelude.{ℕ, nat_lt, ◌==◌, ◌&&◌, ◌||◌, Bool, true, false, List, [], ◌∷◌}

-- each number is above the one before it
abbrev pub ascend_from : ℕ → List ℕ → Bool
ascend_from n [] = true
ascend_from n (m ∷ ms) = nat_lt n m && ascend_from m ms

-- at least one number, and each above the one before it
abbrev pub are_droppable : List ℕ → Bool
are_droppable [] = false
are_droppable (n ∷ ns) = ascend_from n ns

abbrev pub contains : ℕ → List ℕ → Bool
contains n [] = false
contains n (m ∷ ms) = n == m || contains n ms
