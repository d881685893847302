-- The leaves and the names of an object.
use Rattle.std.proofs.Common.{◌≡◌, ℕ, zero, suc, ◌+◌, ◌<◌, ◌≤◌, nat_lt, ℤ, pos, List, [], ◌∷◌, ◌++◌, length, map, Bool, true, false, cond as if_then, Option, Some, None, Err, refl, sym, ap, ◌∙◌, subst, length-append, arith}
use Rattle.std.proofs.lemmas.Bool.Decides.{nat_tests}
use Rattle.lucy_model.specs.declared.leaves.Kind.{Kind}
use Rattle.lucy_model.specs.declared.leaves.Kind.TheVariants as kind
use Rattle.lucy_model.specs.declared.leaves.Leaf.{Leaf}
use Rattle.lucy_model.specs.Ranges.{allows}
use Rattle.lucy_tree.specs.declared.marks.Name.{Name}
use Rattle.lucy_tree.specs.declared.marks.Bounds.{Bounds}
use Rattle.lucy_tree.specs.declared.objects.Extreme.{Extreme}
use Rattle.lucy_tree.specs.declared.objects.FlagKind.{FlagKind}
use Rattle.lucy_tree.specs.declared.objects.Field.{Field, roll-Field, map-Field}
use Rattle.lucy_tree.specs.declared.objects.Field.TheOpen.{Field-F}
use Rattle.lucy_tree.specs.declared.objects.Field.TheFolds.{fold-roll-Field, ind-Field}
use Rattle.lucy_gather.specs.declared.error.ElabError.{ElabError}
use Rattle.lucy_gather.specs.declared.scopes.Meaning.{Meaning}
use Rattle.lucy_gather.specs.declared.scopes.Meaning.TheVariants as meaning
use Rattle.lucy_gather.specs.declared.scopes.Entry.{Entry}
use Rattle.lucy_gather.specs.declared.scopes.Scope.{Scope}
use Rattle.lucy_gather.specs.Steps.{and_then, each, state_of, Goes}
use Rattle.lucy_gather.specs.Ranges.{leaf_between}
use Rattle.lucy_gather.specs.Tables.{held, entry_of}
use Rattle.lucy_elaborate.specs.Objects.{kind_of, flag_kind, bit, next_leaf, scope_of, with_leaf, leaf_count, untaken_by, untaken, named_by, named, next_group, number_field, flag_field, atom_field, set_name, set_field, pair_name, Fielded, field_step, field_in, fields_in, not_empty, object_of}
use Rattle.lucy_elaborate_laws.specs.Meanings.{Means, EachMeans, AllMean}
use Rattle.lucy_elaborate_laws.proofs.Meanings.{each_push, each_more}
use Rattle.lucy_elaborate_laws.proofs.Keeping.{done, ok_is, only, only_is, passed, then_passed, state_is, goes_bind, goes_pure, goes_lifted, goes_each, goes_next}

-- ---- more leaves

more_mean : (l k : ℕ) (m : Meaning) → l ≤ k → Means l 0 m → Means k 0 m
more_mean l k (meaning.Number leaf) le h = omega (arith, le, h)
more_mean l k (meaning.Flag leaf) le h = omega (arith, le, h)
more_mean l k (meaning.Atom leaf) le h = omega (arith, le, h)
more_mean l k (meaning.Argument place) le h = h
more_mean l k (meaning.Set group first count) le h = tt
more_mean l k (meaning.Pair group) le h = tt

-- ---- leaves that are 0 or 1

-- the leaf of this number is there, and may be `x`
abbrev pub allows_at : List Leaf → ℕ → ℤ → Bool
allows_at [] place x = false
allows_at (leaf ∷ leaves) zero x = allows leaf x
allows_at (leaf ∷ leaves) (suc place) x = allows_at leaves place x

pub record IsBit (leaves : List Leaf) (place : ℕ) : Type 0 where
  pub off : allows_at leaves place (pos 0) ≡ true
  pub on : allows_at leaves place (pos 1) ≡ true

-- the leaf of a flag or of an atom may be 0 and may be 1
abbrev pub Bits : List Leaf → Meaning → Type 0
Bits leaves (meaning.Flag leaf) = IsBit leaves leaf
Bits leaves (meaning.Atom leaf) = IsBit leaves leaf
Bits leaves (meaning.Number leaf) = Unit {0}
Bits leaves (meaning.Set group first count) = Unit {0}
Bits leaves (meaning.Pair group) = Unit {0}
Bits leaves (meaning.Argument place) = Unit {0}

still_allows : (leaves : List Leaf) (leaf : Leaf) (place : ℕ) (x : ℤ) → allows_at leaves place x ≡ true → allows_at (leaves ++ leaf ∷ []) place x ≡ true
still_allows [] leaf place x h = absurd cc
still_allows (y ∷ leaves) leaf zero x h = h
still_allows (y ∷ leaves) leaf (suc place) x h = still_allows leaves leaf place x h

last_allows : (leaves : List Leaf) (leaf : Leaf) (x : ℤ) → allows leaf x ≡ true → allows_at (leaves ++ leaf ∷ []) (length leaves) x ≡ true
last_allows [] leaf x h = h
last_allows (y ∷ leaves) leaf x h = last_allows leaves leaf x h

still_bits : (leaves : List Leaf) (leaf : Leaf) (m : Meaning) → Bits leaves m → Bits (leaves ++ leaf ∷ []) m
still_bits leaves leaf (meaning.Flag place) h = record { off = still_allows leaves leaf place (pos 0) h.off; on = still_allows leaves leaf place (pos 1) h.on }
still_bits leaves leaf (meaning.Atom place) h = record { off = still_allows leaves leaf place (pos 0) h.off; on = still_allows leaves leaf place (pos 1) h.on }
still_bits leaves leaf (meaning.Number place) h = tt
still_bits leaves leaf (meaning.Set group first count) h = tt
still_bits leaves leaf (meaning.Pair group) h = tt
still_bits leaves leaf (meaning.Argument place) h = tt

-- the leaf that comes last is one of 0 and 1
bit_last : (k : Kind) (n : ℕ) (leaves : List Leaf) → n ≡ length leaves → IsBit (leaves ++ bit k ∷ []) n
unfolding bit
bit_last k n leaves e = subst (λ place. IsBit (leaves ++ bit k ∷ []) place) (sym e) (record { off = last_allows leaves (bit k) (pos 0) refl; on = last_allows leaves (bit k) (pos 1) refl })

-- ---- fields

pub record Sound (s : Scope) : Type 0 where
  pub few : length s.leaves ≤ 64
  pub mean : AllMean (length s.leaves) 0 s.entries
  pub bits : EachMeans (Bits s.leaves) s.entries

-- there is room for a leaf of this number
pub record Room (n : ℕ) (s : Scope) : Type 0 where
  pub sound : Sound s
  pub next : n ≡ length s.leaves
  pub room : n < 64

next_goes : Goes Sound next_leaf Room
unfolding next_leaf
next_goes = goes_next (λ (s : Scope). length s.leaves) 64 _ (λ s before room. record { sound = before; next = refl; room = room })

pub untaken_goes : {P : Scope → Type 0} (group : ℕ) (name : Name) → Goes P (untaken group name) (λ _. P)
unfolding untaken
untaken_goes {P} group name = record { goes = λ s t a before e. by (held group name.text s.entries) s t a before e }
  where
    by : (o : Option Meaning) (s t : Scope) (a : Unit {0}) → P s → untaken_by name.span.start o s ≡ done (a, t) → P t
    by None s t a before e = subst P (ap (λ p. p.1) (ok_is e)) before
    by (Some m) s t a before e = absurd cc

abbrev pub with_entry : Scope → Entry → Scope
with_entry s entry = scope_of s.leaves (s.entries ++ entry ∷ [])

-- a name that was put stands behind the others
pub named_is : (group : ℕ) (name : Name) (m : Meaning) (s t : Scope) (a : Unit {0}) → named group name m s ≡ done (a, t) → t ≡ with_entry s (entry_of group name.text m)
unfolding named
named_is group name m s t a e = by (held group name.text s.entries) e
  where
    by : (o : Option Meaning) → named_by name.span.start o (with_entry s (entry_of group name.text m)) ≡ done (a, t) → t ≡ with_entry s (entry_of group name.text m)
    by None f = sym (ap (λ p. p.1) (ok_is f))
    by (Some other) f = absurd cc

leaf_goes : (n group : ℕ) (name : Name) (m : Meaning) (leaf : Leaf) → ((l : ℕ) → n < l → Means l 0 m) → ((leaves : List Leaf) → n ≡ length leaves → Bits (leaves ++ leaf ∷ []) m)
    → Goes (Room n) (λ s. and_then (named group name m s) (λ _. with_leaf leaf)) (λ _. Sound)
unfolding with_leaf
leaf_goes n group name m leaf h b = record {
  goes = λ s t a before e.
      let (u, v, e1, e2) = passed (named group name m s) (λ _. with_leaf leaf) (a, t) e in
      let put : v ≡ with_entry s (entry_of group name.text m) = named_is group name m s v u e1 in
      subst Sound (ap (λ w. scope_of (w.leaves ++ leaf ∷ []) w.entries) (sym put) ∙ ap (λ p. p.1) (ok_is e2)) (made s before);
}
  where
    made : (s : Scope) → Room n s → Sound (scope_of (s.leaves ++ leaf ∷ []) (s.entries ++ entry_of group name.text m ∷ []))
    made s before =
        let leaves = s.leaves ++ leaf ∷ [] in
        let entry = entry_of group name.text m in
        let longer : length leaves ≡ length s.leaves + 1 = length-append s.leaves (leaf ∷ []) in
        record {
          few = omega (arith, longer, before.next, before.room);
          mean = each_push (Means (length leaves) 0) s.entries entry
              (each_more (Means (length leaves) 0) (Means (length s.leaves) 0) (λ x k. more_mean (length s.leaves) (length leaves) x (omega (arith, longer)) k) s.entries before.sound.mean)
              (h (length leaves) (omega (arith, longer, before.next)));
          bits = each_push (Bits leaves) s.entries entry (each_more (Bits leaves) (Bits s.leaves) (still_bits s.leaves leaf) s.entries before.sound.bits) (b s.leaves before.next);
        }

name_goes : (group : ℕ) (name : Name) (m : Meaning) → ((l : ℕ) → Means l 0 m) → ((leaves : List Leaf) → Bits leaves m) → Goes Sound (named group name m) (λ _. Sound)
name_goes group name m h b = record {
  goes = λ s t a before e.
      let entry = entry_of group name.text m in
      subst Sound (sym (named_is group name m s t a e)) (record {
        few = before.few;
        mean = each_push (Means (length s.leaves) 0) s.entries entry before.mean (h (length s.leaves));
        bits = each_push (Bits s.leaves) s.entries entry before.bits (b s.leaves);
      });
}

group_goes : Goes Sound next_group (λ _. Sound)
unfolding next_group
group_goes = record { goes = λ s t a before e. subst Sound (ap (λ p. p.1) (ok_is e)) before }

count_goes : Goes Sound leaf_count (λ _. Sound)
unfolding leaf_count
count_goes = record { goes = λ s t a before e. subst Sound (ap (λ p. p.1) (ok_is e)) before }

number_goes : (group : ℕ) (extremity : Extreme) (name : Name) (bounds : Bounds) → Goes Sound (number_field group extremity name bounds) (λ _. Sound)
unfolding number_field
number_goes group extremity name bounds = goes_bind next_goes (λ n. goes_bind (untaken_goes group name) (λ _.
    goes_bind (goes_lifted (leaf_between (kind_of extremity) bounds)) (λ leaf. leaf_goes n group name (meaning.Number n) leaf (λ l h. h) (λ leaves e. tt))))

flag_goes : (group : ℕ) (joined : FlagKind) (name : Name) → Goes Sound (flag_field group joined name) (λ _. Sound)
unfolding flag_field
flag_goes group joined name = goes_bind next_goes (λ n. leaf_goes n group name (meaning.Flag n) (bit (flag_kind joined)) (λ l h. h) (λ leaves e. bit_last (flag_kind joined) n leaves e))

atom_goes : (group : ℕ) (name : Name) → Goes Sound (atom_field group name) (λ _. Sound)
unfolding atom_field
atom_goes group name = goes_bind (untaken_goes group name) (λ _. goes_bind next_goes (λ n. leaf_goes n group name (meaning.Atom n) (bit kind.Max) (λ l h. h) (λ leaves e. bit_last kind.Max n leaves e)))

set_goes : (group : ℕ) (name : Name) (atoms : List Name) → Goes Sound (set_field group name atoms) (λ _. Sound)
unfolding set_field set_name
set_goes group name atoms =
    goes_bind (goes_bind group_goes (λ inner. goes_bind count_goes (λ first.
    goes_bind (name_goes group name (meaning.Set inner first (length atoms)) (λ l. tt) (λ leaves. tt)) (λ _. goes_pure inner (λ s k. k)))))
    (λ inner. goes_each (atom_field inner) (atom_goes inner) atoms)

pair_goes : (group : ℕ) (name : Name) → Goes Sound (pair_name group name) (λ _. Sound)
unfolding pair_name
pair_goes group name = goes_bind group_goes (λ inner.
    goes_bind (name_goes group name (meaning.Pair inner) (λ l. tt) (λ leaves. tt)) (λ _. goes_pure inner (λ s k. k)))

abbrev Kept : Field → Type 0
Kept f = (group : ℕ) → Goes Sound (field_in f group) (λ _. Sound)

abbrev Known : Type 0
Known = (f : Field) × Kept f

inner_goes : (group : ℕ) (es : List Known) → Goes Sound (each (λ (f : Fielded). f group) (map field_in (map (λ (e : Known). e.0) es))) (λ _. Sound)
inner_goes group [] = goes_pure tt (λ s k. k)
inner_goes group (e ∷ es) = goes_bind (e.1 group) (λ _. inner_goes group es)

by_field : (y : Field-F Known) (group : ℕ) → Goes Sound (field_step (map-Field Field Fielded field_in (map-Field Known Field (λ e. e.0) y)) group) (λ _. Sound)
by_field (Field-F.Number extremity word name bounds semicolon) group = number_goes group extremity name bounds
by_field (Field-F.Flag joined word name semicolon) group = flag_goes group joined name
by_field (Field-F.Set word name open_brace atoms close_brace semicolon) group = set_goes group name atoms
by_field (Field-F.Pair word name open_brace fields close_brace) group = goes_bind (pair_goes group name) (λ inner. inner_goes inner fields)

pub field_goes : (f : Field) → Kept f
field_goes = ind-Field Kept (λ x y e. subst (λ z. Kept (roll-Field z)) e (λ group.
    subst (λ (p : Fielded). Goes Sound (p group) (λ _. Sound)) (sym (fold-roll-Field Fielded field_step (map-Field Known Field (λ k. k.0) y))) (by_field y group)))

fields_goes : (group : ℕ) (fields : List Field) → Goes Sound (fields_in fields group) (λ _. Sound)
fields_goes group [] = goes_pure tt (λ s k. k)
fields_goes group (f ∷ fs) = goes_bind (field_goes f group) (λ _. fields_goes group fs)

-- ---- the object

pub kept_scope : (s t : Scope) → not_empty s ≡ only t → (s ≡ t) × (1 ≤ length t.leaves)
unfolding not_empty
kept_scope s t e = by (nat_lt 0 (length s.leaves)) refl _ e
  where
    by : (b : Bool) → nat_lt 0 (length s.leaves) ≡ b → (d : ElabError) → if_then b (only s) (Err d) ≡ only t → (s ≡ t) × (1 ≤ length t.leaves)
    by true f d g = (only_is g, subst (λ (u : Scope). 1 ≤ length u.leaves) (only_is g) (grind (arith, nat_tests, f)))
    by false f d g = absurd cc

object_made : (fields : List Field) (scope : Scope) → object_of fields ≡ only scope → (1 ≤ length scope.leaves) × Sound scope
unfolding object_of
object_made fields scope e =
    let (s, e1, e2) = then_passed (state_of (fields_in fields 0 (scope_of [] []))) not_empty scope e in
    let (a, gave) = state_is (fields_in fields 0 (scope_of [] [])) s e1 in
    let kept = kept_scope s scope e2 in
    (kept.1, subst Sound kept.0 ((fields_goes 0 fields).goes (scope_of [] []) s a (record { few = omega arith; mean = tt; bits = tt }) gave))

pub object_sound : (fields : List Field) (scope : Scope) → object_of fields ≡ only scope → (1 ≤ length scope.leaves) × (length scope.leaves ≤ 64) × AllMean (length scope.leaves) 0 scope.entries
object_sound fields scope e = let made = object_made fields scope e in (made.0, made.1.few, made.1.mean)

-- the names of flags and atoms stand for leaves that may be 0 and 1
pub object_bits : (fields : List Field) (scope : Scope) → object_of fields ≡ only scope → EachMeans (Bits scope.leaves) scope.entries
object_bits fields scope e = (object_made fields scope e).1.bits
