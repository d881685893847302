-- What names and paths stand for.
use Rattle.std.specs.Prelude.{ℕ, List, [], ◌∷◌, Option, None, Some, Result, Ok, Err}
use Rattle.std.specs.Option.{option_or}
use Rattle.lucy_tree.specs.declared.marks.Name.{Name}
use Rattle.lucy_tree.specs.declared.marks.Then.{Then}
use Rattle.lucy_tree.specs.declared.marks.Chain.{Chain}
use Rattle.lucy_gather.specs.declared.error.ElabError.{ElabError}
use Rattle.lucy_gather.specs.declared.error.ElabError.TheVariants as error
use Rattle.lucy_gather.specs.declared.scopes.Meaning.{Meaning}
use Rattle.lucy_gather.specs.declared.scopes.Meaning.TheVariants as meaning
use Rattle.lucy_gather.specs.declared.scopes.Variable.{Variable}
use Rattle.lucy_gather.specs.declared.scopes.Variable.TheVariants as variable
use Rattle.lucy_gather.specs.declared.scopes.Entry.{Entry}
use Rattle.lucy_gather.specs.declared.scopes.Scope.{Scope}
use Rattle.lucy_gather.specs.Steps.{then_of, or_refused}
pub use Rattle.lucy_gather.specs.Tables.{held}

abbrev pub Path : Type 0
Path = Chain Name

abbrev pub on_some : {A B : Type 0} → Option A → (A → Option B) → Option B
on_some None f = None
on_some (Some a) f = f a

-- only a pair has names within it
abbrev pub within : List Entry → Meaning → Name → Option Meaning
within entries (meaning.Pair group) name = held group name.text entries
within entries _ name = None

-- what the later names of a path lead to
abbrev pub walked : List Entry → Meaning → List (Then Name) → Option Meaning
walked entries found [] = Some found
walked entries found (t ∷ ts) = on_some (within entries found t.item) (λ inner. walked entries inner ts)

-- what a first name stands for: an outermost field, or else a parameter
abbrev pub outermost : Scope → List Entry → Name → Option Meaning
outermost scope params name = option_or (held 0 name.text scope.entries) (held 0 name.text params)

abbrev pub meaning_of : Scope → List Entry → Path → Option Meaning
meaning_of scope params path = on_some (outermost scope params path.first) (λ found. walked scope.entries found path.others)

-- a path's place is that of its first name
abbrev pub start_of : Path → ℕ
start_of path = path.first.span.start

unfoldable pub meaning_at : Scope → List Entry → Path → Result Meaning ElabError
meaning_at scope params path = or_refused (error.UnknownName (start_of path)) (meaning_of scope params path)

-- the leaf of a flag
abbrev pub flag_by : ℕ → Meaning → Result ℕ ElabError
flag_by at (meaning.Flag leaf) = Ok leaf
flag_by at _ = Err (error.Kind at)

unfoldable pub flag_at : Scope → List Entry → Path → Result ℕ ElabError
flag_at scope params path = then_of (meaning_at scope params path) (flag_by (start_of path))

-- the group of a set's atoms
abbrev pub set_by : ℕ → Meaning → Result ℕ ElabError
set_by at (meaning.Set group first count) = Ok group
set_by at _ = Err (error.Kind at)

unfoldable pub set_at : Scope → List Entry → Path → Result ℕ ElabError
set_at scope params path = then_of (meaning_at scope params path) (set_by (start_of path))

-- the leaf of an atom in the group of a set
abbrev pub atom_by : ℕ → Option Meaning → Result ℕ ElabError
atom_by at (Some (meaning.Atom leaf)) = Ok leaf
atom_by at _ = Err (error.UnknownName at)

unfoldable pub atom_in : List Entry → ℕ → Name → Result ℕ ElabError
atom_in entries group atom = atom_by atom.span.start (held group atom.text entries)

-- the leaf of an atom of a set: the set's path first
unfoldable pub atom_at : Scope → List Entry → Path → Name → Result ℕ ElabError
atom_at scope params set atom = then_of (set_at scope params set) (λ group. atom_in scope.entries group atom)

-- what a path adds to in a term: a number's leaf or an argument
abbrev pub number_by : ℕ → Meaning → Result Variable ElabError
number_by at (meaning.Number leaf) = Ok (variable.Leaf leaf)
number_by at (meaning.Argument place) = Ok (variable.Argument place)
number_by at _ = Err (error.Kind at)

unfoldable pub number_at : Scope → List Entry → Path → Result Variable ElabError
number_at scope params path = then_of (meaning_at scope params path) (number_by (start_of path))

-- the leaves of a set together
abbrev pub size_by : ℕ → Meaning → Result Variable ElabError
size_by at (meaning.Set group first count) = Ok (variable.Leaves first count)
size_by at _ = Err (error.Kind at)

unfoldable pub size_at : Scope → List Entry → Path → Result Variable ElabError
size_at scope params path = then_of (meaning_at scope params path) (size_by (start_of path))
