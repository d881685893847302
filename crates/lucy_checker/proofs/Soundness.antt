-- A refuted formula has no model.
use Rattle.std.proofs.Common.{◌≡◌, Bool, true, false, not, ◌&&◌, ◌||◌, ℕ, zero, suc, ℤ, List, [], ◌∷◌, ◌++◌, map, Option, Some, None, if◌then◌else◌, slice_get, refl, subst, sym, ◌∙◌, ap}
use Rattle.std.specs.List.{list_all, list_any}
use Rattle.std.specs.Option.{option_map, option_or}
use Rattle.lucy_clauses.specs.declared.formulas.Clause.{Clause}
use Rattle.lucy_clauses.specs.declared.formulas.Formula.{Formula}
use Rattle.lucy_clauses.specs.declared.lines.Line.{Line}
use Rattle.lucy_clauses.specs.Equality.{same_form}
use Rattle.lucy_clauses.specs.EqualForms.{equal_atoms}
use Rattle.lucy_clauses.specs.Sums.{Form, is_true, complement}
use Rattle.lucy_clauses.specs.Formulas.{are_within, clause_true, Models}
use Rattle.lucy_clauses.specs.Lines.{Unjustified, unjustified_line}
use Rattle.lucy_clauses.proofs.Mapping.{two_tests}
use Rattle.lucy_clauses.proofs.Solutions.{complement_opposite}
use Rattle.lucy_clauses.proofs.Justified.{lines_hold}
use Rattle.lucy_cert.specs.declared.steps.Proof.{Proof}
use Rattle.lucy_cert.specs.declared.steps.ProofStep.{ProofStep}
use Rattle.lucy_cert.specs.declared.steps.ProofStep.TheVariants.{Lemma, Rup, Drop}
use Rattle.lucy_cert.specs.declared.steps.Why.{Why}
use Rattle.lucy_cert.specs.declared.steps.Why.TheVariants.{Unknown}
use Rattle.lucy_cert.specs.Numbers.{contains}
use Rattle.lucy_cert.specs.Justified.{Known, nothing, after, clause_at, is_false, open_atoms, by_clause, by_open, is_last, rup_fault, why_of, lemma_fault, names_known, where_known, rule_fault, live_clauses, live_fault, step_fault}
use Rattle.lucy_cert.specs.Refuting.{AreJustified, known_after, is_none_left, is_empty, has_empty}
use Rattle.lucy_cert.specs.Laws.{RefutedHasNoModel}

-- ---- lists

abbrev pub Each : {A : Type 0} → (A → Type 0) → List A → Type 0
Each P [] = Unit {0}
Each P (x ∷ xs) = P x × Each P xs

at_place : {A : Type 0} (P : A → Type 0) (xs : List A) (i : ℕ) (x : A) → Each P xs → slice_get xs i ≡ Some x → P x
at_place P [] i x all h = absurd (cc)
at_place P (y ∷ xs) zero x all h =
    let same : y ≡ x = cc in
    subst P same all.0
at_place P (y ∷ xs) (suc i) x all h = at_place P xs i x all.1 h

Each-push : {A : Type 0} (P : A → Type 0) (xs : List A) (x : A) → Each P xs → P x → Each P (xs ++ x ∷ [])
Each-push P [] x all p = (p, tt)
Each-push P (y ∷ xs) x all p = (all.0, Each-push P xs x all.1 p)

abbrev pub AllTrue : List ℤ → List Form → Type 0
AllTrue a ts = Each (λ (t : Form). is_true a t ≡ true) ts

abbrev pub AllHold : List ℤ → List Clause → Type 0
AllHold a cs = Each (λ (c : Clause). clause_true a c ≡ true) cs

-- ---- propagation

same_form_is : (t u : Form) → same_form t u ≡ true → t ≡ u
same_form_is t u h = (equal_atoms t u).0 h

known_true : (a : List ℤ) (u : Form) (trues : List Form) → AllTrue a trues → list_any (same_form u) trues ≡ true → is_true a u ≡ true
known_true a u [] all h = absurd (cc)
known_true a u (t ∷ ts) all h = by_test (known_true a u ts all.1) (same_form u t) refl h
  where
    by_test : (list_any (same_form u) ts ≡ true → is_true a u ≡ true) → (b : Bool) → same_form u t ≡ b → (b || list_any (same_form u) ts) ≡ true → is_true a u ≡ true
    by_test next true e h = ap (is_true a) (same_form_is u t e) ∙ all.0
    by_test next false e h = next h

false_is : (a : List ℤ) (trues : List Form) (t : Form) → AllTrue a trues → is_false trues t ≡ true → is_true a t ≡ false
false_is a trues t all h = opposite (is_true a t) (sym (complement_opposite t a) ∙ known_true a (complement t) trues all h)
  where
    opposite : (b : Bool) → not b ≡ true → b ≡ false
    opposite true e = absurd (cc)
    opposite false e = refl

open_true : (a : List ℤ) (trues atoms : List Form) → AllTrue a trues → list_any (is_true a) atoms ≡ true → list_any (is_true a) (open_atoms trues atoms) ≡ true
open_true a trues [] all h = h
open_true a trues (t ∷ ts) all h = by_test (open_true a trues ts all) (is_false trues t) refl
  where
    rest : is_true a t ≡ false → list_any (is_true a) ts ≡ true
    rest e = (rw e at h)

    kept : (b c d : Bool) → (b || c) ≡ true → (c ≡ true → d ≡ true) → (b || d) ≡ true
    kept true c d h f = refl
    kept false c d h f = f h

    by_test : (list_any (is_true a) ts ≡ true → list_any (is_true a) (open_atoms trues ts) ≡ true) → (b : Bool) → is_false trues t ≡ b → list_any (is_true a) (if b then open_atoms trues ts else (t ∷ open_atoms trues ts)) ≡ true
    by_test next true e = next (rest (false_is a trues t all e))
    by_test next false e = kept (is_true a t) (list_any (is_true a) ts) (list_any (is_true a) (open_atoms trues ts)) h next

rup_holds : (a : List ℤ) (at : ℕ → Option Clause) (trues : List Form) (hs : List ℕ) → ((n : ℕ) (c : Clause) → at n ≡ Some c → clause_true a c ≡ true) → AllTrue a trues → rup_fault at trues hs ≡ None → ⊥
rup_holds a at trues [] clauses all h = cc
rup_holds a at trues (n ∷ hs) clauses all h =
    by_hint (λ t q. rup_holds a at (trues ++ t ∷ []) hs clauses (Each-push (λ (t : Form). is_true a t ≡ true) trues t all q)) (at n) refl h
  where
    or_none : (b : Bool) → (b || false) ≡ true → b ≡ true
    or_none true h = refl
    or_none false h = h

    by_atoms : ((t : Form) → is_true a t ≡ true → rup_fault at (trues ++ t ∷ []) hs ≡ None → ⊥) → (ts : List Form) → list_any (is_true a) ts ≡ true → by_open ts (is_last hs) (λ t. rup_fault at (trues ++ t ∷ []) hs) ≡ None → ⊥
    by_atoms next [] some h = cc
    by_atoms next (t ∷ []) some h = next t (or_none (is_true a t) some) h
    by_atoms next (t ∷ u ∷ ts) some h = cc

    by_hint : ((t : Form) → is_true a t ≡ true → rup_fault at (trues ++ t ∷ []) hs ≡ None → ⊥) → (o : Option Clause) → at n ≡ o → by_clause o (λ c. by_open (open_atoms trues c.atoms) (is_last hs) (λ t. rup_fault at (trues ++ t ∷ []) hs)) ≡ None → ⊥
    by_hint next None e h = cc
    by_hint next (Some c) e h = by_atoms next (open_atoms trues c.atoms) (open_true a trues c.atoms all (clauses n c e)) h

complements_true : (a : List ℤ) (ts : List Form) → list_any (is_true a) ts ≡ false → AllTrue a (map complement ts)
complements_true a [] h = tt
complements_true a (t ∷ ts) h = by_test (complements_true a ts) (is_true a t) refl h
  where
    by_test : (list_any (is_true a) ts ≡ false → AllTrue a (map complement ts)) → (b : Bool) → is_true a t ≡ b → (b || list_any (is_true a) ts) ≡ false → AllTrue a (map complement (t ∷ ts))
    by_test next true e h = absurd (cc)
    by_test next false e h = (complement_opposite t a ∙ ap not e, next h)

-- ---- steps

clause_at_holds : (a : List ℤ) (clauses : List Clause) (k : Known) → AllHold a (clauses ++ k.added) → (n : ℕ) (c : Clause) → clause_at clauses k n ≡ Some c → clause_true a c ≡ true
clause_at_holds a clauses k all n c h = by_test (contains n k.dropped) h
  where
    by_test : (b : Bool) → (if b then None else slice_get (clauses ++ k.added) n) ≡ Some c → clause_true a c ≡ true
    by_test true h = absurd (cc)
    by_test false h = at_place (λ (c : Clause). clause_true a c ≡ true) (clauses ++ k.added) n c all h

known_names : (n : ℕ) (c : Clause) (others : Option Why) → where_known n c others ≡ None → others ≡ None
known_names n c others h = by_test (names_known n c) h
  where
    by_test : (b : Bool) → (if b then others else Some Unknown) ≡ None → others ≡ None
    by_test true h = h
    by_test false h = absurd (cc)

no_line : (o : Option (ℕ × Unjustified)) → option_map (λ (f : ℕ × Unjustified). why_of f.1) o ≡ None → o ≡ None
no_line None h = refl
no_line (Some f) h = absurd (cc)

lemma_holds : (f : Formula) (clause : Clause) (lines : List Line) (a : List ℤ) → are_within f.ranges a ≡ true → lemma_fault f.ranges clause.atoms lines ≡ None → clause_true a clause ≡ true
lemma_holds f clause lines a within h =
    lines_hold clause.atoms f.ranges lines a (no_line (unjustified_line clause.atoms f.ranges lines) h) within

propagated_holds : (f : Formula) (k : Known) (clause : Clause) (hints : List ℕ) (a : List ℤ) → AllHold a (f.clauses ++ k.added) → rup_fault (clause_at f.clauses k) (map complement clause.atoms) hints ≡ None → clause_true a clause ≡ true
propagated_holds f k clause hints a all h = by_test (clause_true a clause) refl
  where
    by_test : (b : Bool) → clause_true a clause ≡ b → b ≡ true
    by_test true e = refl
    by_test false e = absurd (rup_holds a (clause_at f.clauses k) (map complement clause.atoms) hints (clause_at_holds a f.clauses k all) (complements_true a clause.atoms e) h)

append_push : {A : Type 0} (xs ys : List A) (y : A) → (xs ++ ys) ++ y ∷ [] ≡ xs ++ (ys ++ y ∷ [])
append_push [] ys y = refl
append_push (x ∷ xs) ys y = ap (λ zs. x ∷ zs) (append_push xs ys y)

with_one : (f : Formula) (k : Known) (c : Clause) (a : List ℤ) → AllHold a (f.clauses ++ k.added) → clause_true a c ≡ true → AllHold a (f.clauses ++ (k.added ++ c ∷ []))
with_one f k c a all h = subst (Each (λ (c : Clause). clause_true a c ≡ true)) (append_push f.clauses k.added c) (Each-push (λ (c : Clause). clause_true a c ≡ true) (f.clauses ++ k.added) c all h)

rule_holds : (f : Formula) (k : Known) (s : ProofStep) (a : List ℤ) → are_within f.ranges a ≡ true → AllHold a (f.clauses ++ k.added) → rule_fault f k s ≡ None → AllHold a (f.clauses ++ (after k s).added)
rule_holds f k (Lemma clause lines) a within all h = with_one f k clause a all (lemma_holds f clause lines a within (known_names _ clause _ h))
rule_holds f k (Rup clause hints) a within all h = with_one f k clause a all (propagated_holds f k clause hints a all (known_names _ clause _ h))
rule_holds f k (Drop numbers) a within all h = all

no_rule : (x y : Option Why) → option_or x y ≡ None → x ≡ None
no_rule None y h = refl
no_rule (Some w) y h = absurd (cc)

steps_hold : (f : Formula) (live : Option ℕ) (k : Known) (steps : List ProofStep) (a : List ℤ) → are_within f.ranges a ≡ true → AllHold a (f.clauses ++ k.added) → AreJustified f live k steps → AllHold a (f.clauses ++ (known_after k steps).added)
steps_hold f live k [] a within all j = all
steps_hold f live k (s ∷ ss) a within all j =
    steps_hold f live (after k s) ss a within (rule_holds f k s a within all (no_rule (rule_fault f k s) (live_fault live (live_clauses (after k s))) j.0)) j.1

none_empty : (a : List ℤ) (cs : List Clause) → AllHold a cs → list_any is_empty cs ≡ true → ⊥
none_empty a [] all h = cc
none_empty a (c ∷ cs) all h = by_atoms (none_empty a cs all.1) c.atoms all.0 h
  where
    by_atoms : (list_any is_empty cs ≡ true → ⊥) → (ts : List Form) → list_any (is_true a) ts ≡ true → (is_none_left ts || list_any is_empty cs) ≡ true → ⊥
    by_atoms next [] e h = cc
    by_atoms next (t ∷ ts) e h = next h

all_hold : (a : List ℤ) (cs : List Clause) → list_all (clause_true a) cs ≡ true → AllHold a cs
all_hold a [] h = tt
all_hold a (c ∷ cs) h =
    let t = two_tests (clause_true a c) (list_all (clause_true a) cs) h in
    (t.0, all_hold a cs t.1)

append_nothing : {A : Type 0} (xs : List A) → xs ++ [] ≡ xs
append_nothing [] = refl
append_nothing (x ∷ xs) = ap (λ ys. x ∷ ys) (append_nothing xs)

pub no_model : RefutedHasNoModel
no_model f proof live r a m =
    let t = two_tests (are_within f.ranges a) (list_all (clause_true a) f.clauses) m in
    let first = subst (AllHold a) (sym (append_nothing f.clauses)) (all_hold a f.clauses t.1) in
    none_empty a (f.clauses ++ (known_after nothing proof.steps).added) (steps_hold f live nothing proof.steps a t.0 first r.justified) r.empty
