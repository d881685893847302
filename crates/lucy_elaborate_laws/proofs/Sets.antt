-- The leaves of a set are those of its atoms.
use Rattle.std.proofs.Common.{◌≡◌, ℕ, ◌+◌, ◌<◌, ◌≤◌, ◌==◌, List, [], ◌∷◌, ◌++◌, length, map, Bool, true, false, cond as if_then, refl, sym, ap, subst, ◌∙◌, append_assoc, length-append, arith}
use Rattle.std.proofs.lemmas.Bool.Decides.{nat_tests}
use Rattle.std.proofs.lemmas.List.{append-nil}
use Rattle.lucy_model.specs.declared.leaves.Leaf.{Leaf}
use Rattle.lucy_model.specs.declared.leaves.Kind.TheVariants as kind
use Rattle.lucy_tree.specs.declared.marks.Name.{Name}
use Rattle.lucy_tree.specs.declared.marks.Bounds.{Bounds}
use Rattle.lucy_tree.specs.declared.objects.Extreme.{Extreme}
use Rattle.lucy_tree.specs.declared.objects.FlagKind.{FlagKind}
use Rattle.lucy_tree.specs.declared.objects.Field.{Field, roll-Field, map-Field}
use Rattle.lucy_tree.specs.declared.objects.Field.TheOpen.{Field-F}
use Rattle.lucy_tree.specs.declared.objects.Field.TheFolds.{fold-roll-Field, ind-Field}
use Rattle.lucy_gather.specs.declared.scopes.Meaning.{Meaning}
use Rattle.lucy_gather.specs.declared.scopes.Meaning.TheVariants as meaning
use Rattle.lucy_gather.specs.declared.scopes.Entry.{Entry}
use Rattle.lucy_gather.specs.declared.scopes.Scope.{Scope}
use Rattle.lucy_gather.specs.Steps.{and_then, each, state_of, Goes}
use Rattle.lucy_gather.specs.Ranges.{leaf_between}
use Rattle.lucy_gather.specs.Tables.{entry_of}
use Rattle.lucy_elaborate.specs.Objects.{kind_of, flag_kind, bit, next_leaf, leaf_count, scope_of, with_leaf, untaken, named, next_group, number_field, flag_field, atom_field, atom_fields, set_name, set_field, pair_name, Fielded, field_step, field_in, fields_in, not_empty, object_of}
use Rattle.lucy_elaborate_laws.specs.Meanings.{EachMeans, atom_leaf, atoms_in, places, IsTheirs}
use Rattle.lucy_elaborate_laws.proofs.Meanings.{each_more}
use Rattle.lucy_elaborate_laws.proofs.Objects.{with_entry, named_is, untaken_goes, kept_scope}
use Rattle.lucy_elaborate_laws.proofs.Keeping.{done, ok_is, only, passed, then_passed, state_is, goes_bind, goes_pure, goes_lifted, goes_next}

-- ---- atoms of a group

atoms_append : (group : ℕ) (es fs : List Entry) → atoms_in group (es ++ fs) ≡ atoms_in group es ++ atoms_in group fs
atoms_append group [] fs = refl
atoms_append group (e ∷ es) fs =
    let here : List ℕ = if_then (group == e.group) (atom_leaf e.meaning) [] in
    ap (λ ns. here ++ ns) (atoms_append group es fs) ∙ sym (append_assoc here (atoms_in group es) (atoms_in group fs))

-- no entry is of a later group than this
abbrev Low : ℕ → List Entry → Type 0
Low n [] = Unit {0}
Low n (e ∷ es) = (e.group ≤ n) × Low n es

low_more : (n m : ℕ) (es : List Entry) → n ≤ m → Low n es → Low m es
low_more n m [] le low = tt
low_more n m (e ∷ es) le low = (omega (arith, le, low.0), low_more n m es le low.1)

low_append : (n : ℕ) (es fs : List Entry) → Low n es → Low n fs → Low n (es ++ fs)
low_append n [] fs low more = more
low_append n (e ∷ es) fs low more = (low.0, low_append n es fs low.1 more)

apart : (a b : ℕ) → (a ≡ b → ⊥) → (a == b) ≡ false
apart a b other = grind (arith, nat_tests, other)

itself : (a : ℕ) → (a == a) ≡ true
itself a = grind (arith, nat_tests)

above : (a b n : ℕ) → b ≤ n → n < a → a ≡ b → ⊥
above a b n le lt e = absurd (omega (arith, le, lt, e))

none_later : (n group : ℕ) (es : List Entry) → Low n es → n < group → atoms_in group es ≡ []
none_later n group [] low lt = refl
none_later n group (e ∷ es) low lt =
    ap (λ b. if_then b (atom_leaf e.meaning) [] ++ atoms_in group es) (apart group e.group (above group e.group n low.0 lt)) ∙ none_later n group es low.1 lt

-- ---- the atoms of one set

abbrev atom_entries : ℕ → ℕ → List Name → List Entry
atom_entries group at [] = []
atom_entries group at (a ∷ atoms) = entry_of group a.text (meaning.Atom at) ∷ atom_entries group (at + 1) atoms

atoms_are : (group at : ℕ) (atoms : List Name) → atoms_in group (atom_entries group at atoms) ≡ places at (length atoms)
atoms_are group at [] = refl
atoms_are group at (a ∷ atoms) =
    ap (λ b. if_then b (at ∷ []) [] ++ atoms_in group (atom_entries group (at + 1) atoms)) (itself group) ∙ ap (λ ns. at ∷ ns) (atoms_are group (at + 1) atoms)

atoms_elsewhere : (other group at : ℕ) (atoms : List Name) → (other ≡ group → ⊥) → atoms_in other (atom_entries group at atoms) ≡ []
atoms_elsewhere other group at [] differ = refl
atoms_elsewhere other group at (a ∷ atoms) differ =
    ap (λ b. if_then b (at ∷ []) [] ++ atoms_in other (atom_entries group (at + 1) atoms)) (apart other group differ) ∙ atoms_elsewhere other group (at + 1) atoms differ

atoms_low : (n group at : ℕ) (atoms : List Name) → group ≤ n → Low n (atom_entries group at atoms)
atoms_low n group at [] le = tt
atoms_low n group at (a ∷ atoms) le = (le, atoms_low n group (at + 1) atoms le)

-- ---- what is kept: the groups count up, and each set has its atoms

abbrev HasIts : ℕ → List Entry → Meaning → Type 0
HasIts n es (meaning.Set group first count) = (group ≤ n) × (atoms_in group es ≡ places first count)
HasIts n es (meaning.Number leaf) = Unit {0}
HasIts n es (meaning.Flag leaf) = Unit {0}
HasIts n es (meaning.Pair group) = Unit {0}
HasIts n es (meaning.Atom leaf) = Unit {0}
HasIts n es (meaning.Argument place) = Unit {0}

record Tidy (es : List Entry) : Type 0 where
  low : Low (length es) es
  sets : EachMeans (HasIts (length es) es) es

each_append : (Is : Meaning → Type 0) (es fs : List Entry) → EachMeans Is es → EachMeans Is fs → EachMeans Is (es ++ fs)
each_append Is [] fs h k = k
each_append Is (e ∷ es) fs h k = (h.0, each_append Is es fs h.1 k)

-- entries that add no atom to an earlier group
still_its : (n m : ℕ) (es fs : List Entry) → n ≤ m → ((group : ℕ) → group ≤ n → atoms_in group fs ≡ []) → (x : Meaning) → HasIts n es x → HasIts m (es ++ fs) x
still_its n m es fs le none (meaning.Set group first count) h =
    (omega (arith, le, h.0), atoms_append group es fs ∙ ap (λ ns. atoms_in group es ++ ns) (none group h.0) ∙ append-nil (atoms_in group es) ∙ h.1)
still_its n m es fs le none (meaning.Number leaf) h = tt
still_its n m es fs le none (meaning.Flag leaf) h = tt
still_its n m es fs le none (meaning.Pair group) h = tt
still_its n m es fs le none (meaning.Atom leaf) h = tt
still_its n m es fs le none (meaning.Argument place) h = tt

tidy_more : (es fs : List Entry) → Tidy es → Low (length es + length fs) fs → ((group : ℕ) → group ≤ length es → atoms_in group fs ≡ [])
    → EachMeans (HasIts (length es + length fs) (es ++ fs)) fs → Tidy (es ++ fs)
tidy_more es fs tidy low none sets =
    let n = length es in
    let m = length es + length fs in
    let le : n ≤ m = omega arith in
    let all = each_append (HasIts m (es ++ fs)) es fs (each_more (HasIts m (es ++ fs)) (HasIts n es) (still_its n m es fs le none) es tidy.sets) sets in
    let long : m ≡ length (es ++ fs) = sym (length-append es fs) in
    record {
      low = subst (λ k. Low k (es ++ fs)) long (low_append m es fs (low_more n m es le tidy.low) low);
      sets = subst (λ k. EachMeans (HasIts k (es ++ fs)) (es ++ fs)) long all;
    }

-- one more name, which is no set and no atom
tidy_name : (es : List Entry) (group : ℕ) (name : List ℕ) (m : Meaning) → Tidy es → group ≤ length es → atom_leaf m ≡ [] → ((n : ℕ) (fs : List Entry) → HasIts n fs m) → Tidy (es ++ entry_of group name m ∷ [])
tidy_name es group name m tidy le none its =
    tidy_more es (entry_of group name m ∷ []) tidy (omega (arith, le), tt) (λ g h. nothing (g == group)) (its _ _, tt)
  where
    nothing : (b : Bool) → (if_then b (atom_leaf m) [] ++ []) ≡ []
    nothing true = ap (λ ns. ns ++ []) none
    nothing false = refl

atoms_have : (n : ℕ) (es : List Entry) (group at : ℕ) (atoms : List Name) → EachMeans (HasIts n es) (atom_entries group at atoms)
atoms_have n es group at [] = tt
atoms_have n es group at (a ∷ atoms) = (tt, atoms_have n es group (at + 1) atoms)

-- one more set with its atoms, in a group that is new
tidy_set : (es : List Entry) (group : ℕ) (name : List ℕ) (first : ℕ) (atoms : List Name) → Tidy es → group ≤ length es
    → Tidy (es ++ (entry_of group name (meaning.Set (length es + 1) first (length atoms)) ∷ atom_entries (length es + 1) first atoms))
tidy_set es group name first atoms tidy le =
    let inner = length es + 1 in
    let mine = atom_entries inner first atoms in
    let fs = entry_of group name (meaning.Set inner first (length atoms)) ∷ mine in
    let bound : inner ≤ length es + length fs = omega arith in
    tidy_more es fs tidy (omega (arith, le), atoms_low (length es + length fs) inner first atoms bound)
    (λ g h. nothing (g == group) (atoms_in g mine) ∙ atoms_elsewhere g inner first atoms (λ e. absurd (omega (arith, e, h)))) (
      (bound, atoms_append inner es fs ∙ ap (λ ns. ns ++ atoms_in inner fs) (none_later (length es) inner es tidy.low (omega arith)) ∙ nothing (inner == group) (atoms_in inner mine) ∙ atoms_are inner first atoms),
      atoms_have (length es + length fs) (es ++ fs) inner first atoms,
    )
  where
    nothing : (b : Bool) (ns : List ℕ) → (if_then b [] [] ++ ns) ≡ ns
    nothing true ns = refl
    nothing false ns = refl

-- ---- steps

-- the groups from `least` on may be used
record Ready (least : ℕ) (s : Scope) : Type 0 where
  tidy : Tidy s.entries
  enough : least ≤ length s.entries

next_stays : {P : Scope → Type 0} → Goes P next_leaf (λ _. P)
unfolding next_leaf
next_stays = goes_next (λ (s : Scope). length s.leaves) 64 _ (λ s before room. before)

leaf_ready : (least : ℕ) (leaf : Leaf) → Goes (Ready least) (with_leaf leaf) (λ _. Ready least)
unfolding with_leaf
leaf_ready least leaf = record { goes = λ s t a before e. subst (Ready least) (ap (λ p. p.1) (ok_is e)) (record { tidy = before.tidy; enough = before.enough }) }

longer : (es : List Entry) (e : Entry) → length (es ++ e ∷ []) ≡ length es + 1
longer es e = length-append es (e ∷ [])

named_ready : (least group : ℕ) (name : Name) (m : Meaning) → group ≤ least → atom_leaf m ≡ [] → ((n : ℕ) (fs : List Entry) → HasIts n fs m) → Goes (Ready least) (named group name m) (λ _. Ready least)
named_ready least group name m le none its = record {
  goes = λ s t a before e.
      subst (Ready least) (sym (named_is group name m s t a e)) (record {
        tidy = tidy_name s.entries group name.text m before.tidy (omega (arith, le, before.enough)) none its;
        enough = omega (arith, before.enough, longer s.entries (entry_of group name.text m));
      });
}

number_ready : (least group : ℕ) (extremity : Extreme) (name : Name) (bounds : Bounds) → group ≤ least → Goes (Ready least) (number_field group extremity name bounds) (λ _. Ready least)
unfolding number_field
number_ready least group extremity name bounds le = goes_bind next_stays (λ n. goes_bind (untaken_goes group name) (λ _.
    goes_bind (goes_lifted (leaf_between (kind_of extremity) bounds)) (λ leaf. goes_bind (named_ready least group name (meaning.Number n) le refl (λ k fs. tt)) (λ _. leaf_ready least leaf))))

flag_ready : (least group : ℕ) (joined : FlagKind) (name : Name) → group ≤ least → Goes (Ready least) (flag_field group joined name) (λ _. Ready least)
unfolding flag_field
flag_ready least group joined name le = goes_bind next_stays (λ n. goes_bind (named_ready least group name (meaning.Flag n) le refl (λ k fs. tt)) (λ _. leaf_ready least (bit (flag_kind joined))))

next_is : (s : Scope) → Goes (λ t. s ≡ t) next_leaf (λ n t. (s ≡ t) × (n ≡ length t.leaves))
unfolding next_leaf
next_is s = goes_next (λ (t : Scope). length t.leaves) 64 _ (λ t before room. (before, refl))

-- a name behind the others, and then a leaf
atom_end : (group : ℕ) (name : List ℕ) (leaf : Leaf) (n : ℕ) (s r q t : Scope) → s ≡ r → n ≡ length r.leaves → q ≡ with_entry r (entry_of group name (meaning.Atom n))
    → scope_of (q.leaves ++ leaf ∷ []) q.entries ≡ t
    → (t.entries ≡ s.entries ++ entry_of group name (meaning.Atom (length s.leaves)) ∷ []) × (length t.leaves ≡ length s.leaves + 1)
atom_end group name leaf n s r q t same next put end = (
  ap (λ (p : Scope). p.entries) (sym end) ∙ ap (λ (p : Scope). p.entries) put ∙ ap (λ k. r.entries ++ entry_of group name (meaning.Atom k) ∷ []) next ∙ ap (λ (p : Scope). added p) (sym same),
  ap (λ (p : Scope). length p.leaves) (sym end) ∙ ap (λ (p : Scope). length (p.leaves ++ leaf ∷ [])) put ∙ ap (λ (p : Scope). length (p.leaves ++ leaf ∷ [])) (sym same) ∙ length-append s.leaves (leaf ∷ []),
)
  where
    added : Scope → List Entry
    added p = p.entries ++ entry_of group name (meaning.Atom (length p.leaves)) ∷ []

-- what an atom adds, and what all of a set add
atom_adds : (group : ℕ) (name : Name) (s t : Scope) (a : Unit {0}) → atom_field group name s ≡ done (a, t)
    → (t.entries ≡ s.entries ++ entry_of group name.text (meaning.Atom (length s.leaves)) ∷ []) × (length t.leaves ≡ length s.leaves + 1)
unfolding atom_field with_leaf
atom_adds group name s t a e =
    let (u1, s1, e1, f1) = passed (untaken group name s) (λ _ r. and_then (next_leaf r) (λ n q. and_then (named group name (meaning.Atom n) q) (λ _. with_leaf (bit kind.Max)))) (a, t) e in
    let (n, s2, e2, f2) = passed (next_leaf s1) (λ n q. and_then (named group name (meaning.Atom n) q) (λ _. with_leaf (bit kind.Max))) (a, t) f1 in
    let (u2, s3, e3, f3) = passed (named group name (meaning.Atom n) s2) (λ _. with_leaf (bit kind.Max)) (a, t) f2 in
    let same = (untaken_goes {P = λ r. s ≡ r} group name).goes s s1 u1 refl e1 in
    let next = (next_is s1).goes s1 s2 n refl e2 in
    atom_end group name.text (bit kind.Max) n s s2 s3 t (same ∙ next.0) next.1 (named_is group name (meaning.Atom n) s2 s3 u2 e3) (ap (λ p. p.1) (ok_is f3))

atoms_add : (group : ℕ) (atoms : List Name) (s t : Scope) (a : Unit {0}) → atom_fields group atoms s ≡ done (a, t) → t.entries ≡ s.entries ++ atom_entries group (length s.leaves) atoms
atoms_add group [] s t a e = ap (λ (p : Unit {0} × Scope). p.1.entries) (sym (ok_is e)) ∙ sym (append-nil s.entries)
atoms_add group (x ∷ atoms) s t a e =
    let (u, r, e1, e2) = passed (atom_field group x s) (λ _. each (atom_field group) atoms) (a, t) e in
    let one = atom_adds group x s r u e1 in
    let entry = entry_of group x.text (meaning.Atom (length s.leaves)) in
    atoms_add group atoms r t a e2
    ∙ ap (λ n. r.entries ++ atom_entries group n atoms) one.1
    ∙ ap (λ es. es ++ atom_entries group (length s.leaves + 1) atoms) one.0
    ∙ append_assoc s.entries (entry ∷ []) (atom_entries group (length s.leaves + 1) atoms)

set_adds : (group : ℕ) (name : Name) (atoms : List Name) (s t : Scope) (a : Unit {0}) → set_field group name atoms s ≡ done (a, t)
    → t.entries ≡ s.entries ++ (entry_of group name.text (meaning.Set (length s.entries + 1) (length s.leaves) (length atoms)) ∷ atom_entries (length s.entries + 1) (length s.leaves) atoms)
unfolding set_field set_name next_group leaf_count
set_adds group name atoms s t a e =
    let inner = length s.entries + 1 in
    let first = length s.leaves in
    let m = meaning.Set inner first (length atoms) in
    let (i, r, e1, e2) = passed (set_name group name (length atoms) s) (λ i. atom_fields i atoms) (a, t) e in
    let (u, q, e3, e4) = passed (named group name m s) (λ _ p. done (inner, p)) (i, r) e1 in
    let put : q ≡ with_entry s (entry_of group name.text m) = named_is group name m s q u e3 in
    let same : (inner, q) ≡ (i, r) = ok_is e4 in
    let group_is : i ≡ inner = ap (λ p. p.0) (sym same) in
    let scope_is : r ≡ with_entry s (entry_of group name.text m) = ap (λ p. p.1) (sym same) ∙ put in
    atoms_add i atoms r t a e2
    ∙ ap (λ (p : Scope). p.entries ++ atom_entries i (length p.leaves) atoms) scope_is
    ∙ ap (λ k. (s.entries ++ entry_of group name.text m ∷ []) ++ atom_entries k first atoms) group_is
    ∙ append_assoc s.entries (entry_of group name.text m ∷ []) (atom_entries inner first atoms)

set_ready : (least group : ℕ) (name : Name) (atoms : List Name) → group ≤ least → Goes (Ready least) (set_field group name atoms) (λ _. Ready least)
set_ready least group name atoms le = record {
  goes = λ s t a before e.
      let added = set_adds group name atoms s t a e in
      let fs = entry_of group name.text (meaning.Set (length s.entries + 1) (length s.leaves) (length atoms)) ∷ atom_entries (length s.entries + 1) (length s.leaves) atoms in
      let long : length t.entries ≡ length s.entries + length fs = ap length added ∙ length-append s.entries fs in
      record {
        tidy = subst Tidy (sym added) (tidy_set s.entries group name.text (length s.leaves) atoms before.tidy (omega (arith, le, before.enough)));
        enough = omega (arith, before.enough, long);
      };
}

pair_ready : (least group : ℕ) (name : Name) → group ≤ least → Goes (Ready least) (pair_name group name) (λ inner s. Ready inner s × (least ≤ inner))
unfolding pair_name next_group
pair_ready least group name le = record {
  goes = λ s t i before e.
      let inner = length s.entries + 1 in
      let m = meaning.Pair inner in
      let (u, q, e1, e2) = passed (named group name m s) (λ _ p. done (inner, p)) (i, t) e in
      let entry = entry_of group name.text m in
      let put : q ≡ with_entry s entry = named_is group name m s q u e1 in
      let same : (inner, q) ≡ (i, t) = ok_is e2 in
      let K : ℕ × Scope → Type 0 = λ p. Ready p.0 p.1 × (least ≤ p.0) in
      subst K (ap (λ r. (inner, r)) (sym put) ∙ same) (
        record {
          tidy = tidy_name s.entries group name.text m before.tidy (omega (arith, le, before.enough)) refl (λ n fs. tt);
          enough = omega (arith, longer s.entries entry);
        },
        omega (arith, before.enough),
      );
}

-- ---- fields

abbrev Kept : Field → Type 0
Kept f = (least group : ℕ) → group ≤ least → Goes (Ready least) (field_in f group) (λ _. Ready least)

abbrev Known : Type 0
Known = (f : Field) × Kept f

inner_ready : (least group : ℕ) (es : List Known) → group ≤ least → Goes (Ready least) (each (λ (f : Fielded). f group) (map field_in (map (λ (e : Known). e.0) es))) (λ _. Ready least)
inner_ready least group [] le = goes_pure tt (λ s k. k)
inner_ready least group (e ∷ es) le = goes_bind (e.1 least group le) (λ _. inner_ready least group es le)

-- the fields of a pair, in its group
within_pair : (least inner : ℕ) (es : List Known) → Goes (λ s. Ready inner s × (least ≤ inner)) (each (λ (f : Fielded). f inner) (map field_in (map (λ (e : Known). e.0) es))) (λ _. Ready least)
within_pair least inner es = record {
  goes = λ s t a before e.
      let after = (inner_ready inner inner es (omega arith)).goes s t a before.0 e in
      record { tidy = after.tidy; enough = omega (arith, after.enough, before.1) };
}

by_field : (y : Field-F Known) (least group : ℕ) → group ≤ least → Goes (Ready least) (field_step (map-Field Field Fielded field_in (map-Field Known Field (λ e. e.0) y)) group) (λ _. Ready least)
by_field (Field-F.Number extremity word name bounds semicolon) least group le = number_ready least group extremity name bounds le
by_field (Field-F.Flag joined word name semicolon) least group le = flag_ready least group joined name le
by_field (Field-F.Set word name open_brace atoms close_brace semicolon) least group le = set_ready least group name atoms le
by_field (Field-F.Pair word name open_brace fields close_brace) least group le = goes_bind (pair_ready least group name le) (λ inner. within_pair least inner fields)

field_ready : (f : Field) → Kept f
field_ready = ind-Field Kept (λ x y e. subst (λ z. Kept (roll-Field z)) e (λ least group le.
    subst (λ (p : Fielded). Goes (Ready least) (p group) (λ _. Ready least)) (sym (fold-roll-Field Fielded field_step (map-Field Known Field (λ k. k.0) y))) (by_field y least group le)))

fields_ready : (fields : List Field) → Goes (Ready 0) (fields_in fields 0) (λ _. Ready 0)
fields_ready [] = goes_pure tt (λ s k. k)
fields_ready (f ∷ fs) = goes_bind (field_ready f 0 0 (omega arith)) (λ _. fields_ready fs)

-- ---- the object

theirs : (n : ℕ) (es : List Entry) (m : Meaning) → HasIts n es m → IsTheirs es m
theirs n es (meaning.Set group first count) h = h.1
theirs n es (meaning.Number leaf) h = tt
theirs n es (meaning.Flag leaf) h = tt
theirs n es (meaning.Pair group) h = tt
theirs n es (meaning.Atom leaf) h = tt
theirs n es (meaning.Argument place) h = tt

pub sets_theirs : (fields : List Field) (scope : Scope) → object_of fields ≡ only scope → EachMeans (IsTheirs scope.entries) scope.entries
unfolding object_of
sets_theirs fields scope e =
    let (s, e1, e2) = then_passed (state_of (fields_in fields 0 (scope_of [] []))) not_empty scope e in
    let (a, gave) = state_is (fields_in fields 0 (scope_of [] [])) s e1 in
    let kept = kept_scope s scope e2 in
    let ready = subst (Ready 0) kept.0 ((fields_ready fields).goes (scope_of [] []) s a (record { tidy = record { low = tt; sets = tt }; enough = omega arith }) gave) in
    each_more (IsTheirs scope.entries) (HasIts (length scope.entries) scope.entries) (theirs (length scope.entries) scope.entries) scope.entries ready.tidy.sets
