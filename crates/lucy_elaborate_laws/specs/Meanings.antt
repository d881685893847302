-- Names that stand for what is there.
use Rattle.std.specs.Prelude.{◌≡◌, ℕ, zero, suc, ◌+◌, ◌<◌, ◌==◌, if◌then◌else◌, List, [], ◌∷◌, ◌++◌}
use Rattle.lucy_gather.specs.declared.scopes.Meaning.{Meaning}
use Rattle.lucy_gather.specs.declared.scopes.Meaning.TheVariants as meaning
use Rattle.lucy_gather.specs.declared.scopes.Entry.{Entry}

-- what a name stands for is among so many leaves and parameters
abbrev pub Means : ℕ → ℕ → Meaning → Type 0
Means leaves params (meaning.Number leaf) = leaf < leaves
Means leaves params (meaning.Flag leaf) = leaf < leaves
Means leaves params (meaning.Atom leaf) = leaf < leaves
Means leaves params (meaning.Argument place) = place < params
Means leaves params (meaning.Set group first count) = Unit {0}
Means leaves params (meaning.Pair group) = Unit {0}

-- what each name of a list stands for has a property
abbrev pub EachMeans : (Meaning → Type 0) → List Entry → Type 0
EachMeans Is [] = Unit {0}
EachMeans Is (e ∷ es) = Is e.meaning × EachMeans Is es

-- what each name of a list stands for is there
abbrev pub AllMean : ℕ → ℕ → List Entry → Type 0
AllMean leaves params = EachMeans (Means leaves params)

-- the leaf that a name stands for, where it is an atom
abbrev pub atom_leaf : Meaning → List ℕ
atom_leaf (meaning.Atom leaf) = leaf ∷ []
atom_leaf _ = []

-- the leaves of the atoms in a group, in text order
abbrev pub atoms_in : ℕ → List Entry → List ℕ
atoms_in group [] = []
atoms_in group (e ∷ es) = (if group == e.group then atom_leaf e.meaning else []) ++ atoms_in group es

-- so many places from a first one on
abbrev pub places : ℕ → ℕ → List ℕ
places first zero = []
places first (suc count) = first ∷ places (first + 1) count

-- the leaves of a set are those of the atoms in its group
abbrev pub IsTheirs : List Entry → Meaning → Type 0
IsTheirs entries (meaning.Set group first count) = atoms_in group entries ≡ places first count
IsTheirs entries _ = Unit {0}
