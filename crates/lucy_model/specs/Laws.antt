-- Laws of the merge and of empty conditions.
use Rattle.std.specs.Prelude.{◌≡◌, ℤ, IsTrue, List, [], length}
use Rattle.lucy_model.specs.Merging.{merged}
use Rattle.lucy_model.specs.Ranges.{all_allowed}
use Rattle.lucy_model.specs.Conditions.{Holds}
use Rattle.lucy_model.specs.declared.leaves.Leaf.{Leaf}
use Rattle.lucy_model.specs.declared.conditions.Condition.{And, Or}

-- the order of two merged states does not matter
abbrev pub MergeCommutes : Type 0
MergeCommutes = (object : List Leaf) (xs ys : List ℤ) → merged object xs ys ≡ merged object ys xs

-- nor does the order in which three are merged
abbrev pub MergeAssociates : Type 0
MergeAssociates = (object : List Leaf) (xs ys zs : List ℤ) → merged object (merged object xs ys) zs ≡ merged object xs (merged object ys zs)

-- a state merged with itself stays as it is
abbrev pub MergeIsIdempotent : Type 0
MergeIsIdempotent = (object : List Leaf) (xs : List ℤ) → length xs ≡ length object → merged object xs xs ≡ xs

-- numbers in the leaves' ranges merge to numbers in these ranges
abbrev pub MergeStaysInRange : Type 0
MergeStaysInRange =
    (object : List Leaf) (xs ys : List ℤ) → IsTrue (all_allowed object xs) → IsTrue (all_allowed object ys) → IsTrue (all_allowed object (merged object xs ys))

-- all of no parts hold
abbrev pub EmptyAndHolds : Type 0
EmptyAndHolds = (xs arguments : List ℤ) → Holds (And []) xs arguments

-- none of no parts holds
abbrev pub EmptyOrFails : Type 0
EmptyOrFails = (xs arguments : List ℤ) → ¬ (Holds (Or []) xs arguments)
