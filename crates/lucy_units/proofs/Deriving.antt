-- True atoms that follow from those before them.
use Rattle.std.proofs.Common.{◌≡◌, ◌⊎◌, inl, inr, Bool, true, false, ℕ, zero, suc, List, [], ◌∷◌, ◌++◌, map, take, length, Option, Some, None, if◌then◌else◌, slice_get, refl, sym, ◌∙◌, ap, subst, arith, append_assoc, append-nil, length-append}
use Rattle.std.proofs.lemmas.List.{map-append}
use Rattle.std.specs.Option.{option_map}
use Rattle.lucy_clauses.specs.declared.formulas.Clause.{Clause}
use Rattle.lucy_clauses.specs.Sums.{Form, complement}
use Rattle.lucy_cert.specs.Justified.{is_false, open_atoms}
use Rattle.lucy_units.specs.Leads.{is_known, opened, all_known}
use Rattle.lucy_units.specs.Stores.{Stored, stored, assumed, AreDerived, IsStore}
use Rattle.lucy_units.specs.States.{IsUnit}
use Rattle.lucy_units.specs.Propagations.{Grows}
use Rattle.lucy_units.proofs.Lists.{both, slice_get-front}
use Rattle.lucy_units.proofs.Knowing.{known_in}

-- why an atom may be true behind others
abbrev pub IsReason : List Clause → List Form → Form → Option ℕ → Type 0
IsReason cs trues t None = Unit {0}
IsReason cs trues t (Some n) = opened cs trues n ≡ Some (t ∷ [])

seam : (before : List Form) (t : Form) (ts : List Form) → (before ++ t ∷ []) ++ ts ≡ before ++ t ∷ ts
seam before t ts = append_assoc before (t ∷ []) ts

pub derived_push : (cs : List Clause) (before ts : List Form) (rs : List (Option ℕ)) (t : Form) (r : Option ℕ) → AreDerived cs before ts rs → IsReason cs (before ++ ts) t r → AreDerived cs before (ts ++ t ∷ []) (rs ++ r ∷ [])
derived_push cs before [] [] t None d h = tt
derived_push cs before [] [] t (Some n) d h = (subst (λ (xs : List Form). opened cs xs n ≡ Some (t ∷ [])) (append-nil before) h, tt)
derived_push cs before [] (r ∷ rs) t q d h = absurd d
derived_push cs before (u ∷ ts) [] t q d h = absurd d
derived_push cs before (u ∷ ts) (None ∷ rs) t q d h = derived_push cs (before ++ u ∷ []) ts rs t q d (subst (λ (xs : List Form). IsReason cs xs t q) (sym (seam before u ts)) h)
derived_push cs before (u ∷ ts) (Some n ∷ rs) t q d h = (d.0, derived_push cs (before ++ u ∷ []) ts rs t q d.1 (subst (λ (xs : List Form). IsReason cs xs t q) (sym (seam before u ts)) h))

pub derived_take : (cs : List Clause) (before ts : List Form) (rs : List (Option ℕ)) (m : ℕ) → AreDerived cs before ts rs → AreDerived cs before (take m ts) (take m rs)
derived_take cs before ts rs zero d = tt
derived_take cs before [] [] (suc m) d = tt
derived_take cs before [] (r ∷ rs) (suc m) d = absurd d
derived_take cs before (t ∷ ts) [] (suc m) d = absurd d
derived_take cs before (t ∷ ts) (None ∷ rs) (suc m) d = derived_take cs (before ++ t ∷ []) ts rs m d
derived_take cs before (t ∷ ts) (Some n ∷ rs) (suc m) d = (d.0, derived_take cs (before ++ t ∷ []) ts rs m d.1)

opened_more : (cs more : List Clause) (trues ts : List Form) (n : ℕ) → opened cs trues n ≡ Some ts → opened (cs ++ more) trues n ≡ Some ts
opened_more cs more trues ts n h = by_place (slice_get cs n) refl h
  where
    by_place : (o : Option Clause) → slice_get cs n ≡ o → option_map (λ (c : Clause). open_atoms trues c.atoms) o ≡ Some ts → opened (cs ++ more) trues n ≡ Some ts
    by_place None e h = absurd (cc)
    by_place (Some c) e h = ap (option_map (λ (c : Clause). open_atoms trues c.atoms)) (slice_get-front cs more n c e) ∙ h

pub derived_more : (cs more : List Clause) (before ts : List Form) (rs : List (Option ℕ)) → AreDerived cs before ts rs → AreDerived (cs ++ more) before ts rs
derived_more cs more before [] [] d = tt
derived_more cs more before [] (r ∷ rs) d = absurd d
derived_more cs more before (t ∷ ts) [] d = absurd d
derived_more cs more before (t ∷ ts) (None ∷ rs) d = derived_more cs more (before ++ t ∷ []) ts rs d
derived_more cs more before (t ∷ ts) (Some n ∷ rs) d = (opened_more cs more before (t ∷ []) n d.0, derived_more cs more (before ++ t ∷ []) ts rs d.1)

pub same_length : (cs : List Clause) (before ts : List Form) (rs : List (Option ℕ)) → AreDerived cs before ts rs → length ts ≡ length rs
same_length cs before [] [] d = refl
same_length cs before [] (r ∷ rs) d = absurd d
same_length cs before (t ∷ ts) [] d = absurd d
same_length cs before (t ∷ ts) (None ∷ rs) d = ap suc (same_length cs (before ++ t ∷ []) ts rs d)
same_length cs before (t ∷ ts) (Some n ∷ rs) d = ap suc (same_length cs (before ++ t ∷ []) ts rs d.1)

-- the reason of an atom at a place
derived_behind : (cs : List Clause) (before ts : List Form) (rs : List (Option ℕ)) (i n : ℕ) (t : Form) → AreDerived cs before ts rs → slice_get ts i ≡ Some t → slice_get rs i ≡ Some (Some n) → opened cs (before ++ take i ts) n ≡ Some (t ∷ [])
derived_behind cs before [] rs i n t d h g = absurd (cc)
derived_behind cs before (u ∷ ts) [] i n t d h g = absurd d
derived_behind cs before (u ∷ ts) (None ∷ rs) zero n t d h g = absurd (cc)
derived_behind cs before (u ∷ ts) (Some m ∷ rs) zero n t d h g =
    let same : u ≡ t = cc in
    let number : m ≡ n = cc in
    rw (append-nil before, ← same, ← number) d.0
derived_behind cs before (u ∷ ts) (None ∷ rs) (suc i) n t d h g = subst (λ (xs : List Form). opened cs xs n ≡ Some (t ∷ [])) (seam before u (take i ts)) (derived_behind cs (before ++ u ∷ []) ts rs i n t d h g)
derived_behind cs before (u ∷ ts) (Some m ∷ rs) (suc i) n t d h g = subst (λ (xs : List Form). opened cs xs n ≡ Some (t ∷ [])) (seam before u (take i ts)) (derived_behind cs (before ++ u ∷ []) ts rs i n t d.1 h g)

pub derived_at : (cs : List Clause) (ts : List Form) (rs : List (Option ℕ)) (i n : ℕ) (t : Form) → AreDerived cs [] ts rs → slice_get ts i ≡ Some t → slice_get rs i ≡ Some (Some n) → opened cs (take i ts) n ≡ Some (t ∷ [])
derived_at cs ts rs i n t d h g = derived_behind cs [] ts rs i n t d h g

-- an assumed atom is among those that were assumed
pub assumed_known : (trues ts : List Form) (rs : List (Option ℕ)) (i : ℕ) (t : Form) → all_known trues (assumed ts rs) ≡ true → slice_get ts i ≡ Some t → slice_get rs i ≡ Some None → is_known t trues ≡ true
assumed_known trues [] rs i t h g e = absurd (cc)
assumed_known trues (u ∷ ts) [] i t h g e = absurd (cc)
assumed_known trues (u ∷ ts) (None ∷ rs) zero t h g e =
    let same : u ≡ t = cc in
    rw (← same) (both (is_known u trues) (all_known trues (assumed ts rs)) h).0
assumed_known trues (u ∷ ts) (Some n ∷ rs) zero t h g e = absurd (cc)
assumed_known trues (u ∷ ts) (None ∷ rs) (suc i) t h g e = assumed_known trues ts rs i t (both (is_known u trues) (all_known trues (assumed ts rs)) h).1 g e
assumed_known trues (u ∷ ts) (Some n ∷ rs) (suc i) t h g e = assumed_known trues ts rs i t h g e

pub assumed_derived : (ts more : List Form) (rs : List (Option ℕ)) (by : List ℕ) → length ts ≡ length rs → assumed (ts ++ more) (rs ++ map Some by) ≡ assumed ts rs
assumed_derived [] [] [] by h = refl
assumed_derived [] (m ∷ more) [] [] h = refl
assumed_derived [] (m ∷ more) [] (n ∷ by) h = assumed_derived [] more [] by h
assumed_derived [] more (r ∷ rs) by h = absurd (omega (arith, h))
assumed_derived (t ∷ ts) more [] by h = absurd (omega (arith, h))
assumed_derived (t ∷ ts) more (None ∷ rs) by h = ap (λ (xs : List Form). t ∷ xs) (assumed_derived ts more rs by (omega (arith, h)))
assumed_derived (t ∷ ts) more (Some n ∷ rs) by h = assumed_derived ts more rs by (omega (arith, h))

-- ---- more true atoms
-- what is false stays so where all true atoms are among others
still_false : (trues before : List Form) (t : Form) → all_known trues before ≡ true → is_false before t ≡ true → is_false trues t ≡ true
still_false trues before t all h = known_in (complement t) before trues all h

pub still_closed : (trues before ts : List Form) → all_known trues before ≡ true → open_atoms before ts ≡ [] → open_atoms trues ts ≡ []
still_closed trues before [] all h = refl
still_closed trues before (t ∷ ts) all h = by_test (still_closed trues before ts all) (is_false before t) refl h
  where
    by_test : (open_atoms before ts ≡ [] → open_atoms trues ts ≡ []) → (b : Bool) → is_false before t ≡ b → (if b then open_atoms before ts else (t ∷ open_atoms before ts)) ≡ [] → open_atoms trues (t ∷ ts) ≡ []
    by_test next true e h = rw (still_false trues before t all e, next h) refl
    by_test next false e h = absurd (cc)

-- one atom that is left may be gone
pub still_one : (trues before ts : List Form) (t : Form) → all_known trues before ≡ true → open_atoms before ts ≡ t ∷ [] → (open_atoms trues ts ≡ []) ⊎ (open_atoms trues ts ≡ t ∷ [])
still_one trues before [] t all h = absurd (cc)
still_one trues before (u ∷ ts) t all h = by_test (still_one trues before ts t all) (is_false before u) refl h
  where
    last : open_atoms trues ts ≡ [] → u ≡ t → (b : Bool) → ((if b then open_atoms trues ts else (u ∷ open_atoms trues ts)) ≡ []) ⊎ ((if b then open_atoms trues ts else (u ∷ open_atoms trues ts)) ≡ t ∷ [])
    last none same true = inl none
    last none same false = inr (rw (none, same) refl)

    by_test : (open_atoms before ts ≡ t ∷ [] → (open_atoms trues ts ≡ []) ⊎ (open_atoms trues ts ≡ t ∷ [])) → (b : Bool) → is_false before u ≡ b → (if b then open_atoms before ts else (u ∷ open_atoms before ts)) ≡ t ∷ [] → (open_atoms trues (u ∷ ts) ≡ []) ⊎ (open_atoms trues (u ∷ ts) ≡ t ∷ [])
    by_test next true e h = rw (still_false trues before u all e) (next h)
    by_test next false e h =
        let same : u ≡ t = cc in
        let none : open_atoms before ts ≡ [] = cc in
        last (still_closed trues before ts all none) same (is_false trues u)

-- a unit clause is a reason for its last atom
pub unit_reason : (cs : List Clause) (trues : List Form) (n place : ℕ) (c : Clause) → slice_get cs n ≡ Some c → (u : IsUnit trues c.atoms place) → opened cs trues n ≡ Some (u.atom ∷ [])
unit_reason cs trues n place c there u = ap (option_map (λ (c : Clause). open_atoms trues c.atoms)) there ∙ ap (λ (ts : List Form). let r : Option (List Form) = Some ts in r) u.left

pub grown : (cs : List Clause) (ts : List Form) (rs : List (Option ℕ)) (t : Form) (n : ℕ) → Grows (stored cs ts rs) (stored cs (ts ++ t ∷ []) (rs ++ Some n ∷ []))
grown cs ts rs t n = record { clauses = refl; more = t ∷ []; by = n ∷ []; atoms = refl; reasons = refl; count = refl }

pub grows_not : (s : Stored) → Grows s s
grows_not s = record { clauses = refl; more = []; by = []; atoms = sym (append-nil s.atoms); reasons = sym (append-nil s.reasons); count = refl }

pub grows_on : (a b c : Stored) → Grows a b → Grows b c → Grows a c
grows_on a b c g h =
    record {
      clauses = h.clauses ∙ g.clauses;
      more = g.more ++ h.more;
      by = g.by ++ h.by;
      atoms = h.atoms ∙ ap (λ (ts : List Form). ts ++ h.more) g.atoms ∙ append_assoc a.atoms g.more h.more;
      reasons = h.reasons ∙ ap (λ (rs : List (Option ℕ)). rs ++ map Some h.by) g.reasons ∙ append_assoc a.reasons (map Some g.by) (map Some h.by) ∙ ap (λ (rs : List (Option ℕ)). a.reasons ++ rs) (sym (map-append Some g.by h.by));
      count = rw (length-append, length-append, g.count, h.count) refl;
    }

pub assumed_kept : (a b : Stored) → IsStore a → Grows a b → assumed b.atoms b.reasons ≡ assumed a.atoms a.reasons
assumed_kept a b s g = rw (g.atoms, g.reasons) (assumed_derived a.atoms g.more a.reasons g.by (same_length a.clauses [] a.atoms a.reasons s.derived))

-- the first atoms of a store that grew are those that it had
pub back : (a b : Stored) → IsStore a → Grows a b → stored b.clauses (take (length a.atoms) b.atoms) (take (length a.atoms) b.reasons) ≡ a
back a b s g =
    let atoms : take (length a.atoms) b.atoms ≡ a.atoms = ap (take (length a.atoms)) g.atoms ∙ take-append a.atoms g.more in
    let count : length a.atoms ≡ length a.reasons = same_length a.clauses [] a.atoms a.reasons s.derived in
    let reasons : take (length a.atoms) b.reasons ≡ a.reasons = ap (λ (n : ℕ). take n b.reasons) count ∙ ap (take (length a.reasons)) g.reasons ∙ take-append a.reasons (map Some g.by) in
    rw (g.clauses, atoms, reasons) refl
  where
    take-append : {A : Type 0} (xs ys : List A) → take (length xs) (xs ++ ys) ≡ xs
    take-append [] ys = refl
    take-append (x ∷ xs) ys = ap (λ zs. x ∷ zs) (take-append xs ys)
