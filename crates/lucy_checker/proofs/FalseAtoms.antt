-- What is false where the complements of some atoms are true.
use Rattle.std.proofs.Common.{◌≡◌, ℕ, suc, ◌+◌, ◌-◌, ◌<◌, ◌==◌, Bool, true, false, ◌||◌, ◌↔◌, IsTrue, List, [], ◌∷◌, ◌++◌, map, length, take, drop, get_or, drop-cons, length-drop, Option, Some, None, if◌then◌else◌, refl, sym, ◌∙◌, ap, subst, arith, add-one}
use Rattle.std.specs.List.{list_any}
use Rattle.std.specs.Option.{MatchOption, is_some}
use Rattle.std.proofs.Math.Seq.{take-length}
use Rattle.std.proofs.lemmas.List.Folds.{list_any-append}
use Rattle.lucy_clauses.specs.declared.formulas.Clause.{Clause}
use Rattle.lucy_clauses.specs.Sums.{Form, complement}
use Rattle.lucy_clauses.specs.Equality.{same_form}
use Rattle.lucy_clauses.specs.EqualForms.{equal_atoms}
use Rattle.lucy_clauses.proofs.Uniqueness.{twice}
use Rattle.lucy_cert.specs.declared.steps.Why.{Why}
use Rattle.lucy_cert.specs.declared.steps.Why.TheVariants.{NoConflict}
use Rattle.std.proofs.lemmas.Bool.Decides.{nat_tests}
use Rattle.lucy_cert.specs.Justified.{is_false, open_atoms, by_clause, by_open, is_last, rup_fault}
use Rattle.lucy_checker.specs.Propagation.{is_among, with_atom, AreSame, open_under}

tests_agree : (b c : Bool) → (b ≡ true → c ≡ true) → (c ≡ true → b ≡ true) → b ≡ c
tests_agree true c f g = sym (f refl)
tests_agree false true f g = g refl
tests_agree false false f g = refl

same_complements : (t u : Form) → same_form (complement t) (complement u) ≡ same_form t u
same_complements t u =
    tests_agree (same_form (complement t) (complement u)) (same_form t u)
    (λ h. (equal_atoms t u).1 (sym (twice t) ∙ ap complement ((equal_atoms (complement t) (complement u)).0 h) ∙ twice u))
    (λ h. (equal_atoms (complement t) (complement u)).1 (ap complement ((equal_atoms t u).0 h)))

-- an atom is false exactly where it is one of those whose complements are true
pub is_false-complements : (falses : List Form) (t : Form) → is_false (map complement falses) t ≡ is_among falses t
is_false-complements [] t = refl
is_false-complements (u ∷ us) t =
    ap (λ (b : Bool). b || is_false (map complement us) t) (same_complements t u) ∙ ap (λ (b : Bool). same_form t u || b) (is_false-complements us t)

pub complements-push : (falses : List Form) (t : Form) → map complement (falses ++ complement t ∷ []) ≡ map complement falses ++ t ∷ []
complements-push [] t = ap (λ (u : Form). u ∷ []) (twice t)
complements-push (u ∷ us) t = ap (λ (ts : List Form). complement u ∷ ts) (complements-push us t)

-- ---- the first atom that is not false

if_is : {A : Type 0} (b c : Bool) (x y : A) → b ≡ c → (if b then x else y) ≡ (if c then x else y)
if_is b c x y e = ap (λ (d : Bool). if d then x else y) e

open_false : (falses : List Form) (t : Form) (ts : List Form) → is_among falses t ≡ true → open_under falses (t ∷ ts) ≡ open_under falses ts
open_false falses t ts h = if_is _ true (open_under falses ts) (t ∷ open_under falses ts) (is_false-complements falses t ∙ h)

open_first : (falses : List Form) (t : Form) (ts : List Form) → is_among falses t ≡ false → open_under falses (t ∷ ts) ≡ t ∷ open_under falses ts
open_first falses t ts h = if_is _ false (open_under falses ts) (t ∷ open_under falses ts) (is_false-complements falses t ∙ h)

dropped_at : {A : Type 0} (xs : List A) (i : ℕ) (x : A) → i < length xs → x ≡ get_or xs i x → drop i xs ≡ x ∷ drop (i + 1) xs
dropped_at xs i x within is = drop-cons xs i x within ∙ ap (λ y. y ∷ drop (suc i) xs) (sym is) ∙ ap (λ (j : ℕ). x ∷ drop j xs) (sym (add-one i))

all_behind : {A : Type 0} (xs : List A) (i : ℕ) → take (length xs - i) (drop i xs) ≡ drop i xs
all_behind xs i = ap (λ (n : ℕ). take n (drop i xs)) (sym (length-drop i xs)) ∙ take-length (drop i xs)

pub passed_false : (falses atoms : List Form) (i : ℕ) (t : Form) → i < length atoms → t ≡ get_or atoms i t → is_among falses t ≡ true → open_under falses (drop i atoms) ≡ open_under falses (drop (i + 1) atoms)
passed_false falses atoms i t within is h = ap (open_under falses) (dropped_at atoms i t within is) ∙ open_false falses t (drop (i + 1) atoms) h

pub found_open : (falses atoms : List Form) (i : ℕ) (t : Form) → i < length atoms → t ≡ get_or atoms i t → is_among falses t ≡ false → open_under falses (drop i atoms) ≡ t ∷ open_under falses (take (length atoms - (i + 1)) (drop (i + 1) atoms))
found_open falses atoms i t within is h =
    ap (open_under falses) (dropped_at atoms i t within is)
    ∙ open_first falses t (drop (i + 1) atoms) h
    ∙ ap (λ (ts : List Form). t ∷ open_under falses ts) (sym (all_behind atoms (i + 1)))

-- ---- the same atoms

or_false : (b : Bool) → (b || false) ≡ b
or_false true = refl
or_false false = refl

-- an atom that is put is among them, and no other is that was not
with_atom_is : (falses : List Form) (t u : Form) → is_among (with_atom falses t) u ≡ (is_among falses u || same_form u t)
with_atom_is falses t u = by_test (is_among falses t) refl
  where
    by_test : (b : Bool) → is_among falses t ≡ b → is_among (if b then falses else falses ++ t ∷ []) u ≡ (is_among falses u || same_form u t)
    by_test true h = there (same_form u t) refl
      where
        there : (b : Bool) → same_form u t ≡ b → is_among falses u ≡ (is_among falses u || b)
        there true e =
            let known : is_among falses u ≡ true = ap (is_among falses) ((equal_atoms u t).0 e) ∙ h in
            known ∙ sym (ap (λ (b : Bool). b || true) known)
        there false e = sym (or_false (is_among falses u))
    by_test false h = list_any-append (same_form u) falses (t ∷ []) ∙ ap (λ (b : Bool). is_among falses u || b) (or_false (same_form u t))

pub moved_one : (falses rest atoms : List Form) (t : Form) → AreSame (falses ++ t ∷ rest) atoms → AreSame (with_atom falses t ++ rest) atoms
moved_one falses rest atoms t h = record {
  same = λ u.
      list_any-append (same_form u) (with_atom falses t) rest
      ∙ ap (λ (b : Bool). b || is_among rest u) (with_atom_is falses t u)
      ∙ group (is_among falses u) (same_form u t) (is_among rest u)
      ∙ sym (list_any-append (same_form u) falses (t ∷ rest))
      ∙ h.same u;
}
  where
    group : (a b c : Bool) → ((a || b) || c) ≡ (a || (b || c))
    group true b c = refl
    group false b c = refl

pub moved_at : (falses more atoms : List Form) (i : ℕ) (t copy : Form) → i < length atoms → t ≡ get_or atoms i t → more ≡ with_atom falses copy → copy ≡ t → AreSame (falses ++ drop i atoms) atoms → AreSame (more ++ drop (i + 1) atoms) atoms
moved_at falses more atoms i t copy within is put same h =
    let at_item = subst (λ (ts : List Form). AreSame (falses ++ ts) atoms) (dropped_at atoms i t within is) h in
    subst (λ (ts : List Form). AreSame (ts ++ drop (i + 1) atoms) atoms) (sym (put ∙ ap (with_atom falses) same)) (moved_one falses (drop (i + 1) atoms) atoms t at_item)

open_same : (ts us atoms : List Form) → ((t : Form) → is_false ts t ≡ is_false us t) → open_atoms ts atoms ≡ open_atoms us atoms
open_same ts us [] h = refl
open_same ts us (x ∷ xs) h =
    ap (λ (b : Bool). if b then open_atoms ts xs else (x ∷ open_atoms ts xs)) (h x)
    ∙ ap (λ (ys : List Form). if is_false us x then ys else (x ∷ ys)) (open_same ts us xs h)

more_same : (ts us : List Form) (t : Form) → ((u : Form) → is_false ts u ≡ is_false us u) → (u : Form) → is_false (ts ++ t ∷ []) u ≡ is_false (us ++ t ∷ []) u
more_same ts us t h u =
    list_any-append (same_form (complement u)) ts (t ∷ [])
    ∙ ap (λ (b : Bool). b || (same_form (complement u) t || false)) (h u)
    ∙ sym (list_any-append (same_form (complement u)) us (t ∷ []))

rup_same : (at : ℕ → Option Clause) (ts us : List Form) (hs : List ℕ) → ((t : Form) → is_false ts t ≡ is_false us t) → rup_fault at ts hs ≡ rup_fault at us hs
rup_same at ts us [] h = refl
rup_same at ts us (n ∷ hs) h = by_hint (λ t. rup_same at (ts ++ t ∷ []) (us ++ t ∷ []) hs (more_same ts us t h)) (at n)
  where
    by_atoms : ((t : Form) → rup_fault at (ts ++ t ∷ []) hs ≡ rup_fault at (us ++ t ∷ []) hs) → (xs : List Form) → by_open xs (is_last hs) (λ t. rup_fault at (ts ++ t ∷ []) hs) ≡ by_open xs (is_last hs) (λ t. rup_fault at (us ++ t ∷ []) hs)
    by_atoms next [] = refl
    by_atoms next (t ∷ []) = next t
    by_atoms next (t ∷ u ∷ xs) = refl

    by_hint : ((t : Form) → rup_fault at (ts ++ t ∷ []) hs ≡ rup_fault at (us ++ t ∷ []) hs) → (o : Option Clause) → by_clause o (λ c. by_open (open_atoms ts c.atoms) (is_last hs) (λ t. rup_fault at (ts ++ t ∷ []) hs)) ≡ by_clause o (λ c. by_open (open_atoms us c.atoms) (is_last hs) (λ t. rup_fault at (us ++ t ∷ []) hs))
    by_hint next None = refl
    by_hint next (Some c) =
        ap (λ (xs : List Form). by_open xs (is_last hs) (λ t. rup_fault at (ts ++ t ∷ []) hs)) (open_same ts us c.atoms h)
        ∙ by_atoms next (open_atoms us c.atoms)

pub same_fault : (at : ℕ → Option Clause) (xs ys : List Form) (hs : List ℕ) → AreSame xs ys → rup_fault at (map complement ys) hs ≡ rup_fault at (map complement xs) hs
same_fault at xs ys hs h =
    rup_same at (map complement ys) (map complement xs) hs (λ t. is_false-complements ys t ∙ sym (h.same t) ∙ sym (is_false-complements xs t))

put_behind : (falses : List Form) (t : Form) → AreSame (with_atom falses t) (falses ++ t ∷ [])
put_behind falses t = record {
  same = λ u. with_atom_is falses t u ∙ ap (λ (b : Bool). is_among falses u || b) (sym (or_false (same_form u t))) ∙ sym (list_any-append (same_form u) falses (t ∷ []));
}

-- ---- hints

next_hint : (hints : List ℕ) (i : ℕ) → i < length hints → drop i hints ≡ get_or hints i 0 ∷ drop (i + 1) hints
next_hint hints i within = drop-cons hints i 0 within ∙ ap (λ (j : ℕ). get_or hints i 0 ∷ drop j hints) (sym (add-one i))

-- a hint that leaves one atom makes it true
pub one_left : (at : ℕ → Option Clause) (falses : List Form) (hints : List ℕ) (i : ℕ) (c : Clause) (t : Form) → i < length hints → Some c ≡ at (get_or hints i 0) → open_under falses c.atoms ≡ t ∷ [] → rup_fault at (map complement falses) (drop i hints) ≡ rup_fault at (map complement (with_atom falses (complement t))) (drop (i + 1) hints)
one_left at falses hints i c t within found left =
    ap (rup_fault at (map complement falses)) (next_hint hints i within)
    ∙ ap (λ (o : Option Clause). by_clause o (λ c. by_open (open_atoms (map complement falses) c.atoms) (is_last (drop (i + 1) hints)) (λ t. rup_fault at (map complement falses ++ t ∷ []) (drop (i + 1) hints)))) (sym found)
    ∙ ap (λ (ts : List Form). by_open ts (is_last (drop (i + 1) hints)) (λ t. rup_fault at (map complement falses ++ t ∷ []) (drop (i + 1) hints))) left
    ∙ ap (λ (ts : List Form). rup_fault at ts (drop (i + 1) hints)) (sym (complements-push falses t))
    ∙ same_fault at (with_atom falses (complement t)) (falses ++ complement t ∷ []) (drop (i + 1) hints) (put_behind falses (complement t))

pub no_value : {T : Type 0} (o : Option T) (P : Type 0) (Q : T → Type 0) → MatchOption o P Q → false ≡ is_some o → P
no_value None P Q h e = h
no_value (Some x) P Q h e = absurd (cc)

pub one_only : (falses lent atoms rest : List Form) (t : Form) → lent ≡ atoms → open_under falses lent ≡ t ∷ open_under falses rest → open_under falses rest ≡ [] → open_under falses atoms ≡ t ∷ []
one_only falses lent atoms rest t e first none = sym (ap (open_under falses) e) ∙ first ∙ ap (λ (ts : List Form). t ∷ ts) none

last_test : (hints : List ℕ) (i : ℕ) → i < length hints → is_last (drop (i + 1) hints) ≡ (i + 1 == length hints)
last_test hints i within = by_rest (drop (i + 1) hints) refl
  where
    by_rest : (rest : List ℕ) → drop (i + 1) hints ≡ rest → is_last rest ≡ (i + 1 == length hints)
    by_rest [] e =
        let none : length hints - (i + 1) ≡ 0 = sym (length-drop (i + 1) hints) ∙ ap length e in
        ended i (length hints) within none
      where
        ended : (i l : ℕ) → i < l → l - (i + 1) ≡ 0 → true ≡ (i + 1 == l)
        ended i l p q = grind (arith, nat_tests)
    by_rest (h ∷ hs) e =
        let some : length hints - (i + 1) ≡ length (h ∷ hs) = sym (length-drop (i + 1) hints) ∙ ap length e in
        going i (length hints) (length hs) within some
      where
        going : (i l n : ℕ) → i < l → l - (i + 1) ≡ suc n → false ≡ (i + 1 == l)
        going i l n p q = grind (arith, nat_tests)

-- a hint that leaves no atom is a conflict, if it is the last
pub none_left : (at : ℕ → Option Clause) (falses lent : List Form) (hints : List ℕ) (i : ℕ) (c : Clause) → i < length hints → Some c ≡ at (get_or hints i 0) → lent ≡ c.atoms → open_under falses lent ≡ [] → rup_fault at (map complement falses) (drop i hints) ≡ (if i + 1 == length hints then None else Some NoConflict)
none_left at falses lent hints i c within found atoms left =
    ap (rup_fault at (map complement falses)) (next_hint hints i within)
    ∙ ap (λ (o : Option Clause). by_clause o (λ c. by_open (open_atoms (map complement falses) c.atoms) (is_last (drop (i + 1) hints)) (λ t. rup_fault at (map complement falses ++ t ∷ []) (drop (i + 1) hints)))) (sym found)
    ∙ ap (λ (ts : List Form). by_open ts (is_last (drop (i + 1) hints)) (λ t. rup_fault at (map complement falses ++ t ∷ []) (drop (i + 1) hints))) (sym (ap (open_under falses) atoms) ∙ left)
    ∙ ap (λ (b : Bool). if b then None else Some NoConflict) (last_test hints i within)
