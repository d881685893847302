-- The places of complements, as atoms are put.
use Rattle.std.proofs.Common.{◌≡◌, ℕ, suc, ◌-◌, ◌<◌, ◌^◌, Bool, true, false, not, ◌&&◌, ◌||◌, if◌then◌else◌, ℤ, pos, neg_ℤ, ◌-ℤ◌, List, [], ◌∷◌, ◌++◌, Option, Some, None, map, length, get_or, refl, ap, sym, ◌∙◌, subst, arith}
use Rattle.std.specs.Cmp.{both_ways}
use Rattle.std.specs.Option.{option_map}
use Rattle.std.proofs.lemmas.Int.{ints}
use Rattle.std.proofs.lemmas.List.{map-append, length-map, length-append, set-append_left, get_or-map}
use Rattle.lucy_clauses.specs.Sums.{Form, form, complement}
use Rattle.lucy_clauses.specs.Equality.{same_form}
use Rattle.lucy_clauses.specs.EqualForms.{form_decides}
use Rattle.lucy_clauses.proofs.Uniqueness.{twice}
use Rattle.lucy_atoms.specs.Tables.{place_of, is_among, with_atom, atom_at, differ, complement_of, complements, marked, IsTable}
use Rattle.lucy_atoms.proofs.Places.{or_else, position_here, position_later, position_push, none_passes, place_within, differ_push, put_there}

isnt : (b : Bool) → not b ≡ true → b ≡ false
isnt true e = absurd (cc)
isnt false e = refl

both : (a b : Bool) → (a && b) ≡ true → (a ≡ true) × (b ≡ true)
both true b e = (refl, e)
both false b e = absurd (cc)

-- an atom is the complement of another where the other is its own
opposite : (t a : Form) → same_form (complement t) a ≡ same_form (complement a) t
opposite t a = both_ways (same_form (complement t) a) (same_form (complement a) t) (turned t a) (turned a t)
  where
    turned : (t a : Form) → same_form (complement t) a ≡ true → same_form (complement a) t ≡ true
    turned t a e = (form_decides (complement a) t).1 (ap complement (sym ((form_decides (complement t) a).0 e)) ∙ twice t)

-- no atom is its own complement
not_own : (a : Form) → same_form (complement a) a ≡ false
not_own a = by_test (same_form (complement a) a) refl
  where
    no_half : (b : ℤ) → neg_ℤ b -ℤ pos 1 ≡ b → ⊥
    no_half b e = omega (arith, ints, e)

    by_test : (b : Bool) → same_form (complement a) a ≡ b → b ≡ false
    by_test true e = absurd (no_half a.bound (ap (λ (t : Form). t.bound) ((form_decides (complement a) a).0 e)))
    by_test false e = refl

module _ (atoms : List Form) (a : Form) where
  -- the place of a complement once the atom is put
  place_after : (t : Form) → complement_of (atoms ++ a ∷ []) t ≡ or_else (complement_of atoms t) (if same_form (complement a) t then Some (length atoms) else None)
  place_after t = position_push (same_form (complement t)) atoms a ∙ ap (λ (b : Bool). or_else (complement_of atoms t) (if b then Some (length atoms) else None)) (opposite t a)

  same_place : (t : Form) → same_form (complement a) t ≡ false → complement_of (atoms ++ a ∷ []) t ≡ complement_of atoms t
  same_place t e = place_after t ∙ ap (λ (b : Bool). or_else (complement_of atoms t) (if b then Some (length atoms) else None)) e ∙ unchanged (complement_of atoms t)
    where
      unchanged : (o : Option ℕ) → or_else o None ≡ o
      unchanged None = refl
      unchanged (Some n) = refl

  new_place : (t : Form) → is_among atoms a ≡ false → same_form (complement a) t ≡ true → complement_of (atoms ++ a ∷ []) t ≡ Some (length atoms)
  new_place t none e =
      let its : complement t ≡ a = ap complement (sym ((form_decides (complement a) t).0 e)) ∙ twice a in
      place_after t
      ∙ ap (λ (b : Bool). or_else (complement_of atoms t) (if b then Some (length atoms) else None)) e
      ∙ ap (λ (u : Form). or_else (place_of atoms u) (Some (length atoms))) its
      ∙ ap (λ (o : Option ℕ). or_else o (Some (length atoms))) (none_passes (same_form a) atoms none)

  none_changes : (ts : List Form) → is_among ts (complement a) ≡ false → map (complement_of (atoms ++ a ∷ [])) ts ≡ map (complement_of atoms) ts
  none_changes [] h = refl
  none_changes (t ∷ ts) h = by_test (same_form (complement a) t) refl h (none_changes ts)
    where
      by_test : (b : Bool) → same_form (complement a) t ≡ b → (b || is_among ts (complement a)) ≡ false → (is_among ts (complement a) ≡ false → map (complement_of (atoms ++ a ∷ [])) ts ≡ map (complement_of atoms) ts) → map (complement_of (atoms ++ a ∷ [])) (t ∷ ts) ≡ map (complement_of atoms) (t ∷ ts)
      by_test true e h ih = absurd (cc)
      by_test false e h ih =
          ap (λ (o : Option ℕ). o ∷ map (complement_of (atoms ++ a ∷ [])) ts) (same_place t e) ∙ ap (λ (os : List (Option ℕ)). complement_of atoms t ∷ os) (ih h)

  marked_next : (o x : Option ℕ) (n : ℕ) (os : List (Option ℕ)) → marked (option_map suc o) n (x ∷ os) ≡ x ∷ marked o n os
  marked_next None x n os = refl
  marked_next (Some i) x n os = refl

  -- the place is that of the complement, if it is there
  one_changes : (ts : List Form) → is_among atoms a ≡ false → differ ts ≡ true → map (complement_of (atoms ++ a ∷ [])) ts ≡ marked (place_of ts (complement a)) (length atoms) (map (complement_of atoms) ts)
  one_changes [] none all = refl
  one_changes (t ∷ ts) none all =
      let parts = both (not (is_among ts t)) (differ ts) all in
      by_test (same_form (complement a) t) refl (isnt (is_among ts t) parts.0) (one_changes ts none parts.1)
    where
      by_test : (b : Bool) → same_form (complement a) t ≡ b → is_among ts t ≡ false → map (complement_of (atoms ++ a ∷ [])) ts ≡ marked (place_of ts (complement a)) (length atoms) (map (complement_of atoms) ts) →
          map (complement_of (atoms ++ a ∷ [])) (t ∷ ts) ≡ marked (place_of (t ∷ ts) (complement a)) (length atoms) (map (complement_of atoms) (t ∷ ts))
      by_test true e others ih =
          let rest : is_among ts (complement a) ≡ false = ap (is_among ts) ((form_decides (complement a) t).0 e) ∙ others in
          ap (λ (o : Option ℕ). o ∷ map (complement_of (atoms ++ a ∷ [])) ts) (new_place t none e)
          ∙ ap (λ (os : List (Option ℕ)). Some (length atoms) ∷ os) (none_changes ts rest)
          ∙ ap (λ (o : Option ℕ). marked o (length atoms) (map (complement_of atoms) (t ∷ ts))) (sym (position_here (same_form (complement a)) t ts e))
      by_test false e others ih =
          ap (λ (o : Option ℕ). o ∷ map (complement_of (atoms ++ a ∷ [])) ts) (same_place t e)
          ∙ ap (λ (os : List (Option ℕ)). complement_of atoms t ∷ os) ih
          ∙ sym (marked_next (place_of ts (complement a)) (complement_of atoms t) (length atoms) (map (complement_of atoms) ts))
          ∙ ap (λ (o : Option ℕ). marked o (length atoms) (map (complement_of atoms) (t ∷ ts))) (sym (position_later (same_form (complement a)) t ts e))

  pub complements_push : is_among atoms a ≡ false → differ atoms ≡ true → complements (atoms ++ a ∷ []) ≡ marked (complement_of atoms a) (length atoms) (complements atoms) ++ complement_of atoms a ∷ []
  complements_push none all =
      map-append (complement_of (atoms ++ a ∷ [])) atoms (a ∷ [])
      ∙ ap (λ (os : List (Option ℕ)). os ++ complement_of (atoms ++ a ∷ []) a ∷ []) (one_changes atoms none all)
      ∙ ap (λ (o : Option ℕ). marked (complement_of atoms a) (length atoms) (complements atoms) ++ o ∷ []) (same_place a (not_own a))

-- the mark stands in front of what was put behind
pub marked_front : (o : Option ℕ) (n : ℕ) (os more : List (Option ℕ)) → ((i : ℕ) → o ≡ Some i → i < length os) → marked o n (os ++ more) ≡ marked o n os ++ more
marked_front None n os more h = refl
marked_front (Some i) n os more h = set-append_left os more i (Some n) (h i refl)

-- the table with an atom more
pub table_push : (atoms : List Form) (a : Form) (places : List (Option ℕ)) → is_among atoms a ≡ false → length atoms < 2 ^ 32 - 1 → IsTable atoms places → IsTable (atoms ++ a ∷ []) (marked (complement_of atoms a) (length atoms) (places ++ complement_of atoms a ∷ []))
table_push atoms a places none few table = record {
  differs = differ_push atoms a table.differs none;
  few = omega (arith, few, length-append atoms (a ∷ []));
  places_are =
      ap (λ (os : List (Option ℕ)). marked (complement_of atoms a) (length atoms) (os ++ complement_of atoms a ∷ [])) table.places_are
      ∙ marked_front (complement_of atoms a) (length atoms) (complements atoms) (complement_of atoms a ∷ []) (λ i e. place_there i e)
      ∙ sym (complements_push atoms a none table.differs);
}
  where
    place_there : (i : ℕ) → complement_of atoms a ≡ Some i → i < length (complements atoms)
    place_there i e =
        let within = place_within (same_form (complement a)) atoms i e in
        omega (arith, within, length-map atoms (complement_of atoms))

pub place_is : (atoms : List Form) (places : List (Option ℕ)) (n : ℕ) (d : Option ℕ) → n < length atoms → places ≡ complements atoms → get_or places n d ≡ complement_of atoms (atom_at atoms n)
place_is atoms places n d lt e = ap (λ (os : List (Option ℕ)). get_or os n d) e ∙ get_or-map (complement_of atoms) atoms n (form [] (pos 0)) d lt

-- the same, as the code makes it
pub table_made : (atoms new_atoms : List Form) (a copy : Form) (places pushed marks : List (Option ℕ)) (c : Option ℕ) (n : ℕ) → is_among atoms a ≡ false → n ≡ length atoms → n < 2 ^ 32 - 1 → copy ≡ a → new_atoms ≡ with_atom atoms copy →
    c ≡ complement_of atoms a → pushed ≡ places ++ c ∷ [] → marks ≡ marked c n pushed → IsTable atoms places → IsTable new_atoms marks
table_made atoms new_atoms a copy places pushed marks c n none n_is few copy_is new_is c_is pushed_is marks_are table =
    let keys : new_atoms ≡ atoms ++ a ∷ [] = new_is ∙ ap (with_atom atoms) copy_is ∙ sym (put_there atoms a none) in
    let made : marks ≡ marked (complement_of atoms a) (length atoms) (places ++ complement_of atoms a ∷ []) =
    marks_are ∙ ap (marked c n) pushed_is ∙ ap (λ (o : Option ℕ). marked o n (places ++ o ∷ [])) c_is ∙ ap (λ (k : ℕ). marked (complement_of atoms a) k (places ++ complement_of atoms a ∷ [])) n_is in
    let whole = table_push atoms a places none (subst (λ (k : ℕ). k < 2 ^ 32 - 1) n_is few) table in
    subst (λ (ts : List Form). IsTable ts marks) (sym keys) (subst (IsTable (atoms ++ a ∷ [])) (sym made) whole)
