-- That a third state is the merge of two others.
use Rattle.std.specs.Prelude.{ℕ, ◌+◌, List, [], ◌∷◌, ◌++◌}
use Rattle.lucy_model.specs.declared.leaves.Kind.{Kind}
use Rattle.lucy_model.specs.declared.leaves.Kind.TheVariants.{Max, Min}
use Rattle.lucy_model.specs.declared.leaves.Leaf.{Leaf}
use Rattle.lucy_clauses.specs.Sums.{Form}
use Rattle.lucy_normal.specs.declared.normals.Normal.{Normal, Any}
use Rattle.lucy_normal.specs.declared.normals.Normal.TheVariants.{Atom as Lone}
use Rattle.lucy_normal.specs.Linear.{at_most_other, at_least_other}

abbrev pub either : Form → Form → Normal
either t u = Any (Lone t ∷ Lone u ∷ [])

-- the number of v does not pass that of m, into which it is merged, and it does not fall short of it
abbrev pub not_past : Kind → ℕ → ℕ → Form
not_past Max v m = at_most_other v m
not_past Min v m = at_least_other v m

abbrev pub not_short : Kind → ℕ → ℕ → Form
not_short Max v m = at_least_other v m
not_short Min v m = at_most_other v m

-- m is the greater of a and b: at least both, and at most one of them
abbrev pub greater : ℕ → ℕ → ℕ → List Normal
greater a b m = Lone (at_most_other a m) ∷ Lone (at_most_other b m) ∷ either (at_least_other a m) (at_least_other b m) ∷ []

-- m is the lesser of a and b
abbrev pub lesser : ℕ → ℕ → ℕ → List Normal
lesser a b m = Lone (at_least_other a m) ∷ Lone (at_least_other b m) ∷ either (at_most_other a m) (at_most_other b m) ∷ []

-- m is the merge of a and b
abbrev pub merged_leaf : Kind → ℕ → ℕ → ℕ → List Normal
merged_leaf Max a b m = greater a b m
merged_leaf Min a b m = lesser a b m

-- leaf by leaf, from the variable i of the first state on, where the states lie `leaves` variables apart
abbrev pub merged_leaves : ℕ → ℕ → List Leaf → List Normal
merged_leaves leaves i [] = []
merged_leaves leaves i (leaf ∷ rest) = merged_leaf leaf.kind i (leaves + i) (leaves + (leaves + i)) ++ merged_leaves leaves (i + 1) rest
