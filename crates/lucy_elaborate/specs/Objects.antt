-- The leaves and the names of an object.
use Rattle.std.specs.Prelude.{ℕ, ◌+◌, nat_lt, pos, List, [], ◌∷◌, ◌++◌, length, map, if◌then◌else◌, Option, None, Some, Result, Ok, Err}
use Rattle.lucy_model.specs.declared.leaves.Kind.{Kind}
use Rattle.lucy_model.specs.declared.leaves.Kind.TheVariants as kind
use Rattle.lucy_model.specs.declared.leaves.Leaf.{Leaf}
use Rattle.lucy_plan.specs.declared.refusal.What.TheVariants as what
use Rattle.lucy_plan.specs.Sizes.{first_version, most_leaves}
use Rattle.lucy_tree.specs.declared.marks.Name.{Name}
use Rattle.lucy_tree.specs.declared.marks.Bounds.{Bounds}
use Rattle.lucy_tree.specs.declared.objects.Extreme.{Extreme}
use Rattle.lucy_tree.specs.declared.objects.Extreme.TheVariants as extreme
use Rattle.lucy_tree.specs.declared.objects.FlagKind.{FlagKind}
use Rattle.lucy_tree.specs.declared.objects.FlagKind.TheVariants as flag
use Rattle.lucy_tree.specs.declared.objects.Field.{Field}
use Rattle.lucy_tree.specs.declared.objects.Field.TheOpen.{Field-F}
use Rattle.lucy_tree.specs.declared.objects.Field.TheFolds.{fold-Field}
use Rattle.lucy_gather.specs.declared.error.ElabError.{ElabError}
use Rattle.lucy_gather.specs.declared.error.ElabError.TheVariants as error
use Rattle.lucy_gather.specs.declared.scopes.Meaning.{Meaning}
use Rattle.lucy_gather.specs.declared.scopes.Meaning.TheVariants as meaning
use Rattle.lucy_gather.specs.declared.scopes.Entry.{Entry}
use Rattle.lucy_gather.specs.declared.scopes.Scope.{Scope}
use Rattle.lucy_gather.specs.Steps.{Step, ◌>>=◌, pure, refuse, lifted, then_of, each, state_of}
use Rattle.lucy_gather.specs.Ranges.{leaf_between}
use Rattle.lucy_gather.specs.Tables.{held, entry_of}

-- ---- leaves

abbrev pub kind_of : Extreme → Kind
kind_of extreme.Max = kind.Max
kind_of extreme.Min = kind.Min

abbrev pub flag_kind : FlagKind → Kind
flag_kind flag.Or = kind.Max
flag_kind flag.And = kind.Min

-- a leaf that is 0 or 1
unfoldable pub bit : Kind → Leaf
bit k = record { kind = k; lo = pos 0; hi = pos 1; ordered = record { le = tt }; low = record { le = tt }; high = record { le = tt } }

-- the number of the next leaf
unfoldable pub next_leaf : Step Scope ℕ
next_leaf = λ scope. if nat_lt (length scope.leaves) (most_leaves first_version) then Ok (length scope.leaves, scope) else Err (error.Limit what.Leaves (most_leaves first_version + 1))

abbrev pub scope_of : List Leaf → List Entry → Scope
scope_of leaves entries = record { leaves = leaves; entries = entries }

-- how many leaves there are
unfoldable pub leaf_count : Step Scope ℕ
leaf_count = λ scope. Ok (length scope.leaves, scope)

unfoldable pub with_leaf : Leaf → Step Scope (Unit {0})
with_leaf leaf = λ scope. Ok (tt, scope_of (scope.leaves ++ leaf ∷ []) scope.entries)

-- ---- names

abbrev pub untaken_by : ℕ → Option Meaning → Step Scope (Unit {0})
untaken_by at None = pure tt
untaken_by at (Some other) = refuse (error.Twice at)

-- the name is not taken in its group
unfoldable pub untaken : ℕ → Name → Step Scope (Unit {0})
untaken group name = λ scope. untaken_by name.span.start (held group name.text scope.entries) scope

abbrev pub named_by : ℕ → Option Meaning → Scope → Result (Unit {0} × Scope) ElabError
named_by at None new = Ok (tt, new)
named_by at (Some other) new = Err (error.Twice at)

-- puts a name that is not taken in its group
unfoldable pub named : ℕ → Name → Meaning → Step Scope (Unit {0})
named group name meant = λ scope.
    named_by name.span.start (held group name.text scope.entries) (scope_of scope.leaves (scope.entries ++ entry_of group name.text meant ∷ []))

-- a group that no name has yet
unfoldable pub next_group : Step Scope ℕ
next_group = λ scope. Ok (length scope.entries + 1, scope)

-- ---- fields

unfoldable pub number_field : ℕ → Extreme → Name → Bounds → Step Scope (Unit {0})
number_field group extremity name bounds = do
  number ← next_leaf
  _ ← untaken group name
  leaf ← lifted (leaf_between (kind_of extremity) bounds)
  _ ← named group name (meaning.Number number)
  with_leaf leaf

unfoldable pub flag_field : ℕ → FlagKind → Name → Step Scope (Unit {0})
flag_field group joined name = do
  number ← next_leaf
  _ ← named group name (meaning.Flag number)
  with_leaf (bit (flag_kind joined))

-- an atom: a taken name comes before a leaf too many, since both stand at the atom
unfoldable pub atom_field : ℕ → Name → Step Scope (Unit {0})
atom_field group name = do
  _ ← untaken group name
  number ← next_leaf
  _ ← named group name (meaning.Atom number)
  with_leaf (bit kind.Max)

abbrev pub atom_fields : ℕ → List Name → Step Scope (Unit {0})
atom_fields group = each (atom_field group)

-- a set's name, before its atoms, whose leaves are the next ones; it gives their group
unfoldable pub set_name : ℕ → Name → ℕ → Step Scope ℕ
set_name group name count = do
  inner ← next_group
  first ← leaf_count
  _ ← named group name (meaning.Set inner first count)
  pure inner

unfoldable pub set_field : ℕ → Name → List Name → Step Scope (Unit {0})
set_field group name atoms = set_name group name (length atoms) >>= λ inner. atom_fields inner atoms

-- a pair's name, before its fields; it gives their group
unfoldable pub pair_name : ℕ → Name → Step Scope ℕ
pair_name group name = do
  inner ← next_group
  _ ← named group name (meaning.Pair inner)
  pure inner

-- a field in a group
abbrev pub Fielded : Type 0
Fielded = ℕ → Step Scope (Unit {0})

abbrev pub field_step : Field-F Fielded → Fielded
field_step (Field-F.Number extremity word name bounds semicolon) group = number_field group extremity name bounds
field_step (Field-F.Flag joined word name semicolon) group = flag_field group joined name
field_step (Field-F.Set word name open_brace atoms close_brace semicolon) group = set_field group name atoms
field_step (Field-F.Pair word name open_brace fields close_brace) group = pair_name group name >>= λ inner. each (λ field. field inner) fields

abbrev pub field_in : Field → Fielded
field_in = fold-Field Fielded field_step

abbrev pub fields_in : List Field → Fielded
fields_in fields group = each (λ field. field group) (map field_in fields)

-- ---- the object

-- an object has a leaf
unfoldable pub not_empty : Scope → Result Scope ElabError
not_empty scope = if nat_lt 0 (length scope.leaves) then Ok scope else Err (error.Limit what.Leaves 0)

unfoldable pub object_of : List Field → Result Scope ElabError
object_of fields = then_of (state_of (fields_in fields 0 (scope_of [] []))) not_empty
