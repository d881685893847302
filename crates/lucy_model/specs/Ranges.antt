-- Which numbers a leaf may have.
use Rattle.std.specs.Prelude.{ℤ, int_le, Bool, true, false, ◌&&◌, List, [], ◌∷◌}
use Rattle.lucy_model.specs.declared.leaves.Leaf.{Leaf}

-- a number is in a leaf's range
abbrev pub allows : Leaf → ℤ → Bool
allows leaf x = int_le leaf.lo x && int_le x leaf.hi

-- there is one number for each leaf, and each is in its leaf's range
abbrev pub all_allowed : List Leaf → List ℤ → Bool
all_allowed [] [] = true
all_allowed (leaf ∷ leaves) (x ∷ xs) = allows leaf x && all_allowed leaves xs
all_allowed _ _ = false
