-- Laws of normal conditions and of their clauses.
use Rattle.std.specs.Prelude.{◌≡◌, ℕ, ◌+◌, ◌<◌, ◌≤◌, ◌^◌, Bool, true, false, not, ℤ, List, [], ◌++◌, length, take}
use Rattle.lucy_clauses.specs.declared.formulas.Formula.{Formula}
use Rattle.lucy_clauses.specs.Sums.{number_at}
use Rattle.lucy_clauses.specs.Formulas.{Models, is_narrow}
use Rattle.lucy_model.specs.Conditions.{holds_at, is_condition}
use Rattle.lucy_model.specs.declared.conditions.Condition.{Condition}
use Rattle.lucy_normal.specs.declared.normals.Normal.{Normal}
use Rattle.lucy_normal.specs.Flat.{all_of, any_of}
use Rattle.lucy_normal.specs.Normals.{normal_of}
use Rattle.lucy_normal.specs.Shapes.{true_at, all_true_at, any_true_at, put_all, fresh_of_all, each_atom, each_atom_of_all, is_over, is_small, are_small_ranges, all_atoms, IsFormed}

-- the first numbers of an assignment, one for each range of a formula
abbrev pub front_of : Formula → List ℤ → List ℤ
front_of f b = take (length f.ranges) b

-- where the clauses of normal conditions hold, so do these, and the formula behind which they stand
abbrev pub ClausesSay : Type 0
ClausesSay =
    (ps : List Normal) (f : Formula) (b : List ℤ) → IsFormed f → each_atom_of_all (is_over (length f.ranges)) ps ≡ true
    → Models (put_all ps f) b → Models f (front_of f b) × (all_true_at (front_of f b) ps ≡ true)

-- where normal conditions hold, their clauses do, with these numbers of the fresh variables
abbrev pub ClausesCanHold : Type 0
ClausesCanHold =
    (ps : List Normal) (f : Formula) (a : List ℤ) → IsFormed f → each_atom_of_all (is_over (length f.ranges)) ps ≡ true
    → Models f a → all_true_at a ps ≡ true → Models (put_all ps f) (a ++ fresh_of_all ps a)

-- the clauses of small normal conditions make a narrow formula
abbrev pub ClausesAreNarrow : Type 0
ClausesAreNarrow =
    (ps : List Normal) (f : Formula) → are_small_ranges f.ranges ≡ true → all_atoms (is_small (length f.ranges)) f ≡ true
    → each_atom_of_all (is_small (length f.ranges)) ps ≡ true → is_narrow (put_all ps f) ≡ true

-- the state is what an assignment says of the variables from `first` on
abbrev pub SaysState : ℕ → ℕ → List ℤ → List ℤ → Type 0
SaysState first leaves state a = (leaf : ℕ) → leaf < leaves → number_at a (first + leaf) ≡ number_at state leaf

-- as a condition holds, or as it does not
abbrev pub signed : Bool → Bool → Bool
signed true t = t
signed false t = not t

-- the normal condition of a condition holds where the condition does, and its negative where it does not
abbrev pub NormalMeans : Type 0
NormalMeans =
    (first leaves : ℕ) (c : Condition) (positive : Bool) (state a : List ℤ) → first + leaves ≤ 2 ^ 32 → is_condition leaves 0 c ≡ true → SaysState first leaves state a
    → true_at (normal_of first c positive) a ≡ signed positive (holds_at c state [])

-- its atoms are small, over the variables of the state
abbrev pub NormalIsSmall : Type 0
NormalIsSmall =
    (first leaves n : ℕ) (c : Condition) (positive : Bool) → leaves ≤ 64 → first + leaves ≤ n → n ≤ 2 ^ 32 → is_condition leaves 0 c ≡ true → each_atom (is_small n) (normal_of first c positive) ≡ true

-- flattened lists hold where the lists do
abbrev pub FlatMeans : Type 0
FlatMeans = (ps : List Normal) (a : List ℤ) → (true_at (all_of ps) a ≡ all_true_at a ps) × (true_at (any_of ps) a ≡ any_true_at a ps)
