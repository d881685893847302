-- The start is a state of the object.
use Rattle.std.proofs.Common.{◌≡◌, ℕ, zero, suc, ◌&&◌, ℤ, pos, int_le, ◌≤ℤ◌, List, [], ◌∷◌, ◌++◌, map, Bool, true, false, cond as if_then, Option, Some, None, Err, refl, ap, subst, ◌∙◌, slice_get, slice_set, arith}
use Rattle.std.proofs.lemmas.Bool.{and_parts}
use Rattle.std.proofs.lemmas.Int.{ints}
use Rattle.lucy_model.specs.declared.leaves.Kind.{Kind}
use Rattle.lucy_model.specs.declared.leaves.Kind.TheVariants as kind
use Rattle.lucy_model.specs.declared.leaves.Leaf.{Leaf}
use Rattle.lucy_model.specs.Ranges.{allows, all_allowed}
use Rattle.lucy_tree.specs.declared.marks.Name.{Name}
use Rattle.lucy_tree.specs.declared.marks.Int.{Int}
use Rattle.lucy_tree.specs.declared.objects.Field.{Field}
use Rattle.lucy_tree.specs.declared.objects.Value.{Value}
use Rattle.lucy_tree.specs.declared.objects.Value.TheVariants as value
use Rattle.lucy_tree.specs.declared.objects.Setting.{Setting}
use Rattle.lucy_gather.specs.declared.error.ElabError.{ElabError}
use Rattle.lucy_gather.specs.declared.error.ElabError.TheVariants as error
use Rattle.lucy_gather.specs.declared.scopes.Meaning.{Meaning}
use Rattle.lucy_gather.specs.declared.scopes.Meaning.TheVariants as meaning
use Rattle.lucy_gather.specs.declared.scopes.Scope.{Scope}
use Rattle.lucy_gather.specs.Steps.{Step, state_of, Goes}
use Rattle.lucy_gather.specs.Ranges.{allowed}
use Rattle.lucy_gather.specs.Ranges as ranges
use Rattle.lucy_gather.specs.Scopes.{meaning_at, atom_in}
use Rattle.lucy_gather.specs.Scopes as scopes
use Rattle.lucy_elaborate.specs.declared.starts.Started.{Started}
use Rattle.lucy_elaborate.specs.Objects.{object_of}
use Rattle.lucy_elaborate.specs.Starts.{first_by, first_of, started_of, set_at, with_number, is_in, leaf_once, set_once, once, in_range_by, in_range, flag_value, number_value, member_value, set_value, value_in, setting_in, settings_in, start_of}
use Rattle.lucy_elaborate_laws.specs.Meanings.{EachMeans}
use Rattle.lucy_elaborate_laws.proofs.Keeping.{done, ok_is, only, only_is, then_passed, state_is, goes_bind, goes_pure, goes_err, goes_each, both}
use Rattle.lucy_elaborate_laws.proofs.Names.{lifted_is}
use Rattle.lucy_elaborate_laws.proofs.Meanings.{some, some_is, there, meaning_is, atom_in_is}
use Rattle.lucy_elaborate_laws.proofs.Objects.{allows_at, IsBit, Bits, object_bits}
use Rattle.lucy_elaborate_laws.proofs.Segments.{allowed_is}

-- ---- the numbers of leaves

set_allowed : (leaves : List Leaf) (xs : List ℤ) (place : ℕ) (x : ℤ) → all_allowed leaves xs ≡ true → allows_at leaves place x ≡ true → all_allowed leaves (slice_set xs place x) ≡ true
set_allowed [] xs place x h e = absurd cc
set_allowed (leaf ∷ leaves) [] place x h e = absurd cc
set_allowed (leaf ∷ leaves) (y ∷ xs) zero x h e = both (allows leaf x) (all_allowed leaves xs) e (and_parts (allows leaf y) (all_allowed leaves xs) h).1
set_allowed (leaf ∷ leaves) (y ∷ xs) (suc place) x h e =
    let parts = and_parts (allows leaf y) (all_allowed leaves xs) h in
    both (allows leaf y) (all_allowed leaves (slice_set xs place x)) parts.0 (set_allowed leaves xs place x parts.1 e)

found_allows : (leaves : List Leaf) (place : ℕ) (leaf : Leaf) (x : ℤ) → slice_get leaves place ≡ some leaf → allows leaf x ≡ true → allows_at leaves place x ≡ true
found_allows [] place leaf x e h = absurd cc
found_allows (y ∷ leaves) zero leaf x e h = ap (λ z. allows z x) (some_is e) ∙ h
found_allows (y ∷ leaves) (suc place) leaf x e h = found_allows leaves place leaf x e h

ends_allowed : (lo hi : ℤ) → lo ≤ℤ hi → ((int_le lo lo && int_le lo hi) ≡ true) × ((int_le lo hi && int_le hi hi) ≡ true)
ends_allowed lo hi h = (grind (arith, ints), grind (arith, ints))

first_allowed : (leaf : Leaf) → allows leaf (first_of leaf) ≡ true
first_allowed leaf = by leaf.kind
  where
    by : (k : Kind) → allows leaf (first_by k leaf) ≡ true
    by kind.Max = (ends_allowed leaf.lo leaf.hi leaf.ordered).0
    by kind.Min = (ends_allowed leaf.lo leaf.hi leaf.ordered).1

all_first : (leaves : List Leaf) → all_allowed leaves (map first_of leaves) ≡ true
all_first [] = refl
all_first (leaf ∷ leaves) = both (allows leaf (first_of leaf)) (all_allowed leaves (map first_of leaves)) (first_allowed leaf) (all_first leaves)

module _ (scope : Scope) (bits : EachMeans (Bits scope.leaves) scope.entries) where
  abbrev leaves : List Leaf
  leaves = scope.leaves

  abbrev Allowed : Started → Type 0
  Allowed s = all_allowed leaves s.numbers ≡ true

  abbrev Keeps : Step Started (Unit {0}) → Type 0
  Keeps p = Goes Allowed p (λ _. Allowed)

  some_set : (xs : List ℤ) (place : ℕ) (x : ℤ) (o : Option ℤ) → all_allowed leaves xs ≡ true → allows_at leaves place x ≡ true → all_allowed leaves (set_at xs place x o) ≡ true
  some_set xs place x None h e = h
  some_set xs place x (Some old) h e = set_allowed leaves xs place x h e

  with_number_goes : (place : ℕ) (x : ℤ) → allows_at leaves place x ≡ true → Keeps (with_number place x)
  unfolding with_number
  with_number_goes place x h = record { goes = λ s t a before e. subst Allowed (ap (λ p. p.1) (ok_is e)) (some_set s.numbers place x (slice_get s.numbers place) before h) }

  -- ---- values

  number_allowed : (at place : ℕ) (int : Int) (x : ℤ) → in_range scope at place int ≡ only x → allows_at leaves place x ≡ true
  unfolding in_range
  number_allowed at place int x e = by (slice_get leaves place) refl e
    where
      by : (o : Option Leaf) → slice_get leaves place ≡ o → in_range_by at int o ≡ only x → allows_at leaves place x ≡ true
      by None f g = absurd cc
      by (Some leaf) f g = found_allows leaves place leaf x f (allowed_is leaf int x (there (error.BadStart (ranges.start_of int)) (allowed leaf int) x g))

  number_goes : (at place : ℕ) (v : Value) → Keeps (number_value scope at place v)
  unfolding number_value
  number_goes at place (value.Int int) =
      goes_bind (lifted_is {R = λ x. allows_at leaves place x ≡ true} (in_range scope at place int) (λ x e. number_allowed at place int x e)) (λ x.
      record { goes = λ s t a before e. (with_number_goes place x before.1).goes s t a before.0 e })
  number_goes at place (value.On span) = goes_err (error.Kind at)
  number_goes at place (value.Off span) = goes_err (error.Kind at)
  number_goes at place (value.Set open_brace atoms close_brace) = goes_err (error.Kind at)

  flag_goes : (at place : ℕ) (v : Value) → IsBit leaves place → Keeps (flag_value at place v)
  unfolding flag_value
  flag_goes at place (value.On span) h = with_number_goes place (pos 1) h.on
  flag_goes at place (value.Off span) h = with_number_goes place (pos 0) h.off
  flag_goes at place (value.Int int) h = goes_err (error.Kind at)
  flag_goes at place (value.Set open_brace atoms close_brace) h = goes_err (error.Kind at)

  member_goes : (group : ℕ) (atom : Name) → Keeps (member_value scope group atom)
  unfolding member_value
  member_goes group atom =
      goes_bind (lifted_is {R = IsBit leaves} (atom_in scope.entries group atom) (λ place e. atom_in_is (Bits leaves) scope.entries group atom place bits e)) (λ place.
      record { goes = λ s t a before e. (with_number_goes place (pos 1) before.1.on).goes s t a before.0 e })

  set_goes : (at group : ℕ) (v : Value) → Keeps (set_value scope at group v)
  unfolding set_value
  set_goes at group (value.Set open_brace atoms close_brace) = goes_each (member_value scope group) (member_goes group) atoms
  set_goes at group (value.On span) = goes_err (error.Kind at)
  set_goes at group (value.Off span) = goes_err (error.Kind at)
  set_goes at group (value.Int int) = goes_err (error.Kind at)

  value_goes : (at : ℕ) (m : Meaning) (v : Value) → Bits leaves m → Keeps (value_in scope at m v)
  unfolding value_in
  value_goes at (meaning.Number place) v h = number_goes at place v
  value_goes at (meaning.Flag place) v h = flag_goes at place v h
  value_goes at (meaning.Set group first count) v h = set_goes at group v
  value_goes at (meaning.Pair group) v h = goes_err (error.Kind at)
  value_goes at (meaning.Atom place) v h = goes_err (error.Kind at)
  value_goes at (meaning.Argument place) v h = goes_err (error.Kind at)

  -- ---- a field is given once

  once_more : (test : Started → Bool) (d : ElabError) (more : Started → Started) → ((s : Started) → Allowed s → Allowed (more s)) → Keeps (λ s. if_then (test s) (Err d) (done (tt {0}, more s)))
  once_more test d more h = record { goes = λ s t a before e. by s t a (test s) before e }
    where
      by : (s t : Started) (a : Unit {0}) (b : Bool) → Allowed s → if_then b (Err d) (done (tt {0}, more s)) ≡ done (a, t) → Allowed t
      by s t a true before e = absurd cc
      by s t a false before e = subst Allowed (ap (λ p. p.1) (ok_is e)) (h s before)

  leaf_goes : (at place : ℕ) → Keeps (leaf_once at place)
  unfolding leaf_once
  leaf_goes at place = once_more (λ s. is_in place s.leaves) (error.Twice at) (λ s. started_of s.numbers (s.leaves ++ place ∷ []) s.groups) (λ s k. k)

  group_goes : (at group : ℕ) → Keeps (set_once at group)
  unfolding set_once
  group_goes at group = once_more (λ s. is_in group s.groups) (error.Twice at) (λ s. started_of s.numbers s.leaves (s.groups ++ group ∷ [])) (λ s k. k)

  once_goes : (at : ℕ) (m : Meaning) → Keeps (once at m)
  unfolding once
  once_goes at (meaning.Number place) = leaf_goes at place
  once_goes at (meaning.Flag place) = leaf_goes at place
  once_goes at (meaning.Set group first count) = group_goes at group
  once_goes at (meaning.Pair group) = goes_pure tt (λ s k. k)
  once_goes at (meaning.Atom place) = goes_pure tt (λ s k. k)
  once_goes at (meaning.Argument place) = goes_pure tt (λ s k. k)

  setting_goes : (s : Setting) → Keeps (setting_in scope s)
  unfolding setting_in
  setting_goes setting =
      let at = scopes.start_of setting.path in
      goes_bind (lifted_is {R = Bits leaves} (meaning_at scope [] setting.path) (λ m e. meaning_is (Bits leaves) scope [] bits tt setting.path m e)) (λ m.
      record { goes = λ s t a before e. (goes_bind (once_goes at m) (λ _. value_goes at m setting.value before.1)).goes s t a before.0 e })

  pub start_allowed : (settings : List Setting) (start : List ℤ) → start_of scope settings ≡ only start → all_allowed scope.leaves start ≡ true
  unfolding start_of
  start_allowed settings start e =
      let first = started_of (map first_of leaves) [] [] in
      let (s, e1, e2) = then_passed (state_of (settings_in scope settings first)) (λ s. only s.numbers) start e in
      let (a, gave) = state_is (settings_in scope settings first) s e1 in
      subst (λ (xs : List ℤ). all_allowed leaves xs ≡ true) (only_is {u = s.numbers} {v = start} e2)
      ((goes_each (setting_in scope) setting_goes settings).goes first s a (all_first leaves) gave)

pub starts_allowed : (fields : List Field) (settings : List Setting) (scope : Scope) (start : List ℤ) → object_of fields ≡ only scope → start_of scope settings ≡ only start → all_allowed scope.leaves start ≡ true
starts_allowed fields settings scope start made e = start_allowed scope (object_bits fields scope made) settings start e
