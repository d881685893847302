-- Atoms that are true, and those of a clause that are not false.
use Rattle.std.proofs.Common.{◌≡◌, Bool, true, false, ◌&&◌, ◌||◌, ◌==◌, List, [], ◌∷◌, ◌++◌, map, if◌then◌else◌, refl, ◌∙◌, ap, subst, append_assoc}
use Rattle.std.proofs.lemmas.List.{map-append}
use Rattle.std.proofs.lemmas.Bool.Decides.{Decides-int_eq, Decides-eqb}
use Rattle.std.specs.Ordering.{int_eq}
use Rattle.lucy_clauses.specs.declared.parts.Part.{Part}
use Rattle.lucy_clauses.specs.Sums.{Form, complement}
use Rattle.lucy_clauses.specs.EqualForms.{equal_atoms}
use Rattle.lucy_clauses.proofs.Uniqueness.{twice}
use Rattle.lucy_clauses.specs.Equality.{same_parts, same_form}
use Rattle.lucy_cert.specs.Justified.{open_atoms}
use Rattle.lucy_units.specs.Leads.{is_known, all_known}
use Rattle.lucy_units.proofs.Lists.{both, or_later, or_first}

pub twice_each : (ts : List Form) → map complement (map complement ts) ≡ ts
twice_each [] = refl
twice_each (t ∷ ts) = rw (twice t, twice_each ts) refl

-- ---- equal atoms
same_parts_refl : (ps : List Part) → same_parts ps ps ≡ true
same_parts_refl [] = refl
same_parts_refl (p ∷ ps) =
    let same : (p.variable == p.variable) ≡ true = (Decides-eqb p.variable p.variable).1 refl in
    let by : int_eq p.by p.by ≡ true = (Decides-int_eq p.by p.by).1 refl in
    rw (same, by, same_parts_refl ps) refl

pub same_form_refl : (t : Form) → same_form t t ≡ true
same_form_refl t = and (same_parts t.parts t.parts) (int_eq t.bound t.bound) (same_parts_refl t.parts) ((Decides-int_eq t.bound t.bound).1 refl)
  where
    and : (b c : Bool) → b ≡ true → c ≡ true → (b && c) ≡ true
    and true c e f = f
    and false c e f = absurd (cc)

pub known_among : (t : Form) (before after : List Form) → is_known t (before ++ t ∷ after) ≡ true
known_among t [] after = or_first (same_form t t) (is_known t after) (same_form_refl t)
known_among t (u ∷ before) after = or_later (same_form t u) _ (known_among t before after)

seam : (before : List Form) (t : Form) (after : List Form) → (before ++ t ∷ []) ++ after ≡ before ++ t ∷ after
seam [] t after = refl
seam (u ∷ before) t after = ap (λ (xs : List Form). u ∷ xs) (seam before t after)

pub open_atoms-append : (trues xs ys : List Form) → open_atoms trues (xs ++ ys) ≡ open_atoms trues xs ++ open_atoms trues ys
open_atoms-append trues [] ys = refl
open_atoms-append trues (x ∷ xs) ys = by_test (is_known (complement x) trues) (open_atoms-append trues xs ys)
  where
    by_test : (b : Bool) → open_atoms trues (xs ++ ys) ≡ open_atoms trues xs ++ open_atoms trues ys → (if b then open_atoms trues (xs ++ ys) else (x ∷ open_atoms trues (xs ++ ys))) ≡ (if b then open_atoms trues xs else (x ∷ open_atoms trues xs)) ++ open_atoms trues ys
    by_test true e = e
    by_test false e = ap (λ (ts : List Form). x ∷ ts) e

pub known_more : (t : Form) (trues more : List Form) → is_known t trues ≡ true → is_known t (trues ++ more) ≡ true
known_more t [] more h = absurd (cc)
known_more t (u ∷ trues) more h = by_test (known_more t trues more) (same_form t u) h
  where
    by_test : (is_known t trues ≡ true → is_known t (trues ++ more) ≡ true) → (b : Bool) → (b || is_known t trues) ≡ true → (b || is_known t (trues ++ more)) ≡ true
    by_test next true h = refl
    by_test next false h = next h

pub all_known_more : (trues more ds : List Form) → all_known trues ds ≡ true → all_known (trues ++ more) ds ≡ true
all_known_more trues more [] h = refl
all_known_more trues more (d ∷ ds) h =
    let parts = both (is_known d trues) (all_known trues ds) h in
    rw (known_more d trues more parts.0, all_known_more trues more ds parts.1) refl

pub all_known_after : (before ds : List Form) → all_known (before ++ ds) ds ≡ true
all_known_after before [] = refl
all_known_after before (d ∷ ds) =
    let rest : all_known ((before ++ d ∷ []) ++ ds) ds ≡ true = all_known_after (before ++ d ∷ []) ds in
    let same : (before ++ d ∷ []) ++ ds ≡ before ++ d ∷ ds = append_assoc before (d ∷ []) ds in
    let more : all_known (before ++ d ∷ ds) ds ≡ true = subst (λ (xs : List Form). all_known xs ds ≡ true) same rest in
    rw (known_among d before ds, more) refl

pub all_known_self : (ds : List Form) → all_known ds ds ≡ true
all_known_self ds = all_known_after [] ds

-- the atoms of a denial are false
pub denied_among : (trues ds : List Form) → all_known trues ds ≡ true → open_atoms trues (map complement ds) ≡ []
denied_among trues [] h = refl
denied_among trues (d ∷ ds) h =
    let parts = both (is_known d trues) (all_known trues ds) h in
    let known : is_known (complement (complement d)) trues ≡ true = ap (λ (t : Form). is_known t trues) (twice d) ∙ parts.0 in
    rw (known, denied_among trues ds parts.1) refl

-- what a clause that denies the decisions and an atom leaves
pub open_denial : (trues ds : List Form) (t : Form) → all_known trues ds ≡ true → open_atoms trues (map complement (ds ++ t ∷ [])) ≡ (if is_known t trues then [] else (complement t ∷ []))
open_denial trues ds t h =
    let split : map complement (ds ++ t ∷ []) ≡ map complement ds ++ complement t ∷ [] = map-append complement ds (t ∷ []) in
    let last : open_atoms trues (complement t ∷ []) ≡ (if is_known t trues then [] else (complement t ∷ [])) = ap (λ (u : Form). let r : List Form = if is_known u trues then [] else (complement t ∷ []) in r) (twice t) in
    ap (open_atoms trues) split ∙ open_atoms-append trues (map complement ds) (complement t ∷ []) ∙ ap (λ (xs : List Form). xs ++ open_atoms trues (complement t ∷ [])) (denied_among trues ds h) ∙ last

-- more true atoms leave no more
pub closed_more : (trues more ts : List Form) → open_atoms trues ts ≡ [] → open_atoms (trues ++ more) ts ≡ []
closed_more trues more [] h = refl
closed_more trues more (t ∷ ts) h = by_test (closed_more trues more ts) (is_known (complement t) trues) refl h
  where
    by_test : (open_atoms trues ts ≡ [] → open_atoms (trues ++ more) ts ≡ []) → (b : Bool) → is_known (complement t) trues ≡ b → (if b then open_atoms trues ts else (t ∷ open_atoms trues ts)) ≡ [] → open_atoms (trues ++ more) (t ∷ ts) ≡ []
    by_test next true e h = rw (known_more (complement t) trues more e, next h) refl
    by_test next false e h = absurd (cc)

pub closed_push : (trues ts : List Form) (t : Form) → open_atoms trues ts ≡ [] → open_atoms (trues ++ complement t ∷ []) (ts ++ t ∷ []) ≡ []
closed_push trues ts t h =
    let known : is_known (complement t) (trues ++ complement t ∷ []) ≡ true = known_among (complement t) trues [] in
    let last : open_atoms (trues ++ complement t ∷ []) (t ∷ []) ≡ [] = rw known refl in
    open_atoms-append (trues ++ complement t ∷ []) ts (t ∷ []) ∙ ap (λ (xs : List Form). xs ++ open_atoms (trues ++ complement t ∷ []) (t ∷ [])) (closed_more trues (complement t ∷ []) ts h) ∙ last

-- what is among true atoms is among others that have them all
pub known_in : (t : Form) (before trues : List Form) → all_known trues before ≡ true → is_known t before ≡ true → is_known t trues ≡ true
known_in t [] trues all h = absurd (cc)
known_in t (u ∷ before) trues all h = by_test (known_in t before trues parts.1) (same_form t u) refl h
  where
    parts : (is_known u trues ≡ true) × (all_known trues before ≡ true)
    parts = both (is_known u trues) (all_known trues before) all

    by_test : (is_known t before ≡ true → is_known t trues ≡ true) → (b : Bool) → same_form t u ≡ b → (b || is_known t before) ≡ true → is_known t trues ≡ true
    by_test next true e h =
        let same : t ≡ u = (equal_atoms t u).0 e in
        rw same parts.0
    by_test next false e h = next h
