-- The start: each leaf's first number.
use Rattle.std.specs.Prelude.{ℕ, ℤ, pos, List, [], ◌∷◌, ◌++◌, map, Bool, if◌then◌else◌, Option, None, Some, Result, Ok, Err, slice_get, slice_set, ◌==◌}
use Rattle.std.specs.List.{list_any}
use Rattle.lucy_model.specs.declared.leaves.Kind.{Kind}
use Rattle.lucy_model.specs.declared.leaves.Kind.TheVariants as kind
use Rattle.lucy_model.specs.declared.leaves.Leaf.{Leaf}
use Rattle.lucy_tree.specs.declared.marks.Name.{Name}
use Rattle.lucy_tree.specs.declared.marks.Int.{Int}
use Rattle.lucy_tree.specs.declared.objects.Value.{Value}
use Rattle.lucy_tree.specs.declared.objects.Value.TheVariants as value
use Rattle.lucy_tree.specs.declared.objects.Setting.{Setting}
use Rattle.lucy_gather.specs.declared.error.ElabError.{ElabError}
use Rattle.lucy_gather.specs.declared.error.ElabError.TheVariants as error
use Rattle.lucy_gather.specs.declared.scopes.Meaning.{Meaning}
use Rattle.lucy_gather.specs.declared.scopes.Meaning.TheVariants as meaning
use Rattle.lucy_gather.specs.declared.scopes.Scope.{Scope}
use Rattle.lucy_elaborate.specs.declared.starts.Started.{Started}
use Rattle.lucy_gather.specs.Steps.{Step, ◌>>=◌, pure, refuse, lifted, then_of, each, state_of, or_refused}
use Rattle.lucy_gather.specs.Ranges.{allowed}
use Rattle.lucy_gather.specs.Ranges as ranges
use Rattle.lucy_gather.specs.Scopes.{meaning_at, atom_in}
use Rattle.lucy_gather.specs.Scopes as scopes

-- a leaf that is not given starts at the bound that a merge leaves soonest
abbrev pub first_by : Kind → Leaf → ℤ
first_by kind.Max leaf = leaf.lo
first_by kind.Min leaf = leaf.hi

abbrev pub first_of : Leaf → ℤ
first_of leaf = first_by leaf.kind leaf

abbrev pub started_of : List ℤ → List ℕ → List ℕ → Started
started_of numbers leaves groups = record { numbers = numbers; leaves = leaves; groups = groups }

-- the number of a leaf, if there is that leaf
abbrev pub set_at : List ℤ → ℕ → ℤ → Option ℤ → List ℤ
set_at numbers leaf number None = numbers
set_at numbers leaf number (Some old) = slice_set numbers leaf number

unfoldable pub with_number : ℕ → ℤ → Step Started (Unit {0})
with_number leaf number = λ s. Ok (tt, started_of (set_at s.numbers leaf number (slice_get s.numbers leaf)) s.leaves s.groups)

abbrev pub is_in : ℕ → List ℕ → Bool
is_in n ns = list_any (λ m. n == m) ns

-- the places with this one behind them, unless it is there
abbrev pub with_place : List ℕ → ℕ → List ℕ
with_place given place = if is_in place given then given else given ++ place ∷ []

-- a place is given once
unfoldable pub once_among : ℕ → ℕ → Step (List ℕ) (Unit {0})
once_among at place = λ given. if is_in place given then Err (error.Twice at) else Ok (tt, given ++ place ∷ [])

-- a field is given once
unfoldable pub leaf_once : ℕ → ℕ → Step Started (Unit {0})
leaf_once at leaf = λ s. if is_in leaf s.leaves then Err (error.Twice at) else Ok (tt, started_of s.numbers (s.leaves ++ leaf ∷ []) s.groups)

unfoldable pub set_once : ℕ → ℕ → Step Started (Unit {0})
set_once at group = λ s. if is_in group s.groups then Err (error.Twice at) else Ok (tt, started_of s.numbers s.leaves (s.groups ++ group ∷ []))

unfoldable pub once : ℕ → Meaning → Step Started (Unit {0})
once at (meaning.Number leaf) = leaf_once at leaf
once at (meaning.Flag leaf) = leaf_once at leaf
once at (meaning.Set group first count) = set_once at group
once at _ = pure tt

-- the number of an integer in its leaf's range
abbrev pub in_range_by : ℕ → Int → Option Leaf → Result ℤ ElabError
in_range_by at int None = Err (error.Kind at)
in_range_by at int (Some leaf) = or_refused (error.BadStart (ranges.start_of int)) (allowed leaf int)

unfoldable pub in_range : Scope → ℕ → ℕ → Int → Result ℤ ElabError
in_range scope at leaf int = in_range_by at int (slice_get scope.leaves leaf)

-- `at` is the place of the field's path
unfoldable pub flag_value : ℕ → ℕ → Value → Step Started (Unit {0})
flag_value at leaf (value.On span) = with_number leaf (pos 1)
flag_value at leaf (value.Off span) = with_number leaf (pos 0)
flag_value at leaf _ = refuse (error.Kind at)

module _ (scope : Scope) where
  -- `at` is the place of the field's path
  unfoldable pub number_value : ℕ → ℕ → Value → Step Started (Unit {0})
  number_value at leaf (value.Int int) = lifted (in_range scope at leaf int) >>= λ number. with_number leaf number
  number_value at leaf _ = refuse (error.Kind at)

  -- an atom listed twice is accepted
  unfoldable pub member_value : ℕ → Name → Step Started (Unit {0})
  member_value group atom = lifted (atom_in scope.entries group atom) >>= λ leaf. with_number leaf (pos 1)

  abbrev pub member_values : ℕ → List Name → Step Started (Unit {0})
  member_values group = each (member_value group)

  unfoldable pub set_value : ℕ → ℕ → Value → Step Started (Unit {0})
  set_value at group (value.Set open_brace atoms close_brace) = member_values group atoms
  set_value at group _ = refuse (error.Kind at)

  unfoldable pub value_in : ℕ → Meaning → Value → Step Started (Unit {0})
  value_in at (meaning.Number leaf) v = number_value at leaf v
  value_in at (meaning.Flag leaf) v = flag_value at leaf v
  value_in at (meaning.Set group first count) v = set_value at group v
  value_in at _ v = refuse (error.Kind at)

  unfoldable pub setting_in : Setting → Step Started (Unit {0})
  setting_in s = do
    meant ← lifted (meaning_at scope [] s.path)
    _ ← once (scopes.start_of s.path) meant
    value_in (scopes.start_of s.path) meant s.value

  abbrev pub settings_in : List Setting → Step Started (Unit {0})
  settings_in = each setting_in

  unfoldable pub start_of : List Setting → Result (List ℤ) ElabError
  start_of settings = then_of (state_of (settings_in settings (started_of (map first_of scope.leaves) [] []))) (λ s. Ok s.numbers)
