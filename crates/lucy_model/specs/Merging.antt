-- The merge of states.
use Rattle.std.specs.Prelude.{ℤ, List, [], ◌∷◌, fold}
use Rattle.std.specs.Int.{int_max, int_min}
use Rattle.lucy_model.specs.declared.leaves.Kind.{Kind}
use Rattle.lucy_model.specs.declared.leaves.Kind.TheVariants.{Max, Min}
use Rattle.lucy_model.specs.declared.leaves.Leaf.{Leaf}

-- the greater or the lesser of two numbers, by kind
abbrev pub merged_number : Kind → ℤ → ℤ → ℤ
merged_number Max x y = int_max x y
merged_number Min x y = int_min x y

-- the merge of two states: at each leaf the greater or the lesser number, by the leaf's kind
abbrev pub merged : List Leaf → List ℤ → List ℤ → List ℤ
merged (leaf ∷ leaves) (x ∷ xs) (y ∷ ys) = merged_number leaf.kind x y ∷ merged leaves xs ys
merged _ _ _ = []

-- the merge of a list of states: its members, merged one after another
abbrev pub merged_all : List Leaf → List (List ℤ) → List ℤ
merged_all object [] = []
merged_all object (state ∷ states) = fold (merged object) state states
