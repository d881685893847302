-- The table of last uses tells which clauses later steps name.
use Rattle.std.proofs.Common.{◌≡◌, ℕ, zero, suc, ◌<◌, ◌≤◌, ◌+◌, ◌-◌, ◌==◌, nat_lt, nat_le, Bool, true, false, ◌||◌, List, [], ◌∷◌, ◌++◌, length, drop, set, get_or, if◌then◌else◌, refl, sym, ap, ◌∙◌, subst, inl, inr, arith, length-append, append_assoc, append-nil}
use Rattle.std.specs.Prelude.{slice_index}
use Rattle.std.proofs.lemmas.Bool.{leb-true, leb-false, eqb-true, eqb-false, ne_eqb, lt-ltb, le-ltb, cases_lt}
use Rattle.std.proofs.lemmas.List.{length-set, get_or-set_same, get_or-set_other, drop-append-le}
use Rattle.lucy_cert.specs.declared.steps.ProofStep.{ProofStep}
use Rattle.lucy_cert.specs.Numbers.{contains}
use Rattle.lucy_trim.specs.Trimming.{hints_of, is_hinted}
use Rattle.lucy_trim.specs.Uses.{note, noted, noted_from, zeros, last_uses}
use Rattle.lucy_trim.proofs.Lists.{or_no, or_yes, or_group}

-- ---- one step

length-note : (first steps : ℕ) (last : List ℕ) (h : ℕ) → length (note first steps last h) ≡ length last
length-note first steps last h = by_test (nat_le first h)
  where
    by_test : (b : Bool) → length (if b then set last (h - first) steps else last) ≡ length last
    by_test true = length-set last (h - first) steps
    by_test false = refl

length-noted : (first steps : ℕ) (last : List ℕ) (hs : List ℕ) → length (noted first steps last hs) ≡ length last
length-noted first steps last [] = refl
length-noted first steps last (h ∷ hs) = length-noted first steps (note first steps last h) hs ∙ length-note first steps last h

note_at : (first steps : ℕ) (last : List ℕ) (h j : ℕ) → j < length last → slice_index (note first steps last h) j ≡ (if (first + j) == h then steps else slice_index last j)
note_at first steps last h j lt = by_test (nat_le first h) refl
  where
    here : (b : Bool) → ((first + j) == h) ≡ b → nat_le first h ≡ true → get_or (set last (h - first) steps) j 0 ≡ (if b then steps else get_or last j 0)
    here true e le =
        let place : h - first ≡ j = between first j h (eqb-true (first + j) h e) in
        subst (λ (i : ℕ). get_or (set last i steps) j 0 ≡ steps) (sym place) (get_or-set_same last j steps 0 lt)
      where
        between : (first j h : ℕ) → first + j ≡ h → h - first ≡ j
        between first j h e = omega arith
    here false e le = get_or-set_other last (h - first) j steps 0 (λ g. eqb-false (first + j) h e (joined first j h (leb-true first h le) g))
      where
        joined : (first j h : ℕ) → first ≤ h → j ≡ h - first → first + j ≡ h
        joined first j h le e = omega arith

    by_test : (b : Bool) → nat_le first h ≡ b → get_or (if b then set last (h - first) steps else last) j 0 ≡ (if (first + j) == h then steps else get_or last j 0)
    by_test true e = here ((first + j) == h) refl e
    by_test false e = sym (ap (λ (b : Bool). if b then steps else get_or last j 0) (ne_eqb (first + j) h (λ g. apart first j h (leb-false first h e) g)))
      where
        apart : (first j h : ℕ) → h < first → first + j ≡ h → ⊥
        apart first j h lt e = omega arith

noted_at : (first steps : ℕ) (last : List ℕ) (hs : List ℕ) (j : ℕ) → j < length last → slice_index (noted first steps last hs) j ≡ (if contains (first + j) hs then steps else slice_index last j)
noted_at first steps last [] j lt = refl
noted_at first steps last (h ∷ hs) j lt =
    noted_at first steps (note first steps last h) hs j (subst (λ (n : ℕ). j < n) (sym (length-note first steps last h)) lt)
    ∙ ap (λ (x : ℕ). if contains (first + j) hs then steps else x) (note_at first steps last h j lt)
    ∙ either ((first + j) == h) (contains (first + j) hs) steps (slice_index last j)
  where
    either : (b c : Bool) (x y : ℕ) → (if c then x else (if b then x else y)) ≡ (if b || c then x else y)
    either true true x y = refl
    either true false x y = refl
    either false true x y = refl
    either false false x y = refl

-- ---- all steps

hinted-append : (xs ys : List ProofStep) (n : ℕ) → is_hinted (xs ++ ys) n ≡ (is_hinted xs n || is_hinted ys n)
hinted-append [] ys n = refl
hinted-append (x ∷ xs) ys n = ap (λ (b : Bool). contains n (hints_of x) || b) (hinted-append xs ys n) ∙ or_group (contains n (hints_of x)) (is_hinted xs n) (is_hinted ys n)

-- the table of some steps tells which clauses the steps behind a place name
pub record Tells (first : ℕ) (seen : List ProofStep) (last : List ℕ) : Type 0 where
  pub tells : (j i : ℕ) → j < length last → nat_lt i (slice_index last j) ≡ is_hinted (drop i seen) (first + j)

none_behind : (i : ℕ) (seen : List ProofStep) → length seen ≤ i → drop i seen ≡ []
none_behind zero [] le = refl
none_behind zero (x ∷ xs) le = absurd (omega arith)
none_behind (suc i) [] le = refl
none_behind (suc i) (x ∷ xs) le = none_behind i xs (omega arith)

tells_more : (first : ℕ) (seen : List ProofStep) (last : List ℕ) (s : ProofStep) (passed : ℕ) → passed ≡ length seen + 1 → Tells first seen last → Tells first (seen ++ s ∷ []) (noted first passed last (hints_of s))
tells_more first seen last s passed size told = record { tells = each }
  where
    fresh : (j i : ℕ) (b : Bool) → contains (first + j) (hints_of s) ≡ b → j < length last → i ≤ length seen → nat_lt i (if b then passed else slice_index last j) ≡ (is_hinted (drop i seen) (first + j) || b)
    fresh j i true e lt le = lt-ltb i passed (within i passed (length seen) size le) ∙ sym (or_yes (is_hinted (drop i seen) (first + j)))
      where
        within : (i p l : ℕ) → p ≡ l + 1 → i ≤ l → i < p
        within i p l e le = omega arith
    fresh j i false e lt le = told.tells j i lt ∙ sym (or_no (is_hinted (drop i seen) (first + j)))

    front : (j i : ℕ) → j < length last → i ≤ length seen → nat_lt i (if contains (first + j) (hints_of s) then passed else slice_index last j) ≡ is_hinted (drop i (seen ++ s ∷ [])) (first + j)
    front j i lt le =
        fresh j i (contains (first + j) (hints_of s)) refl lt le
        ∙ ap (λ (b : Bool). is_hinted (drop i seen) (first + j) || b) (sym (or_no (contains (first + j) (hints_of s))))
        ∙ sym (hinted-append (drop i seen) (s ∷ []) (first + j))
        ∙ sym (ap (λ (ss : List ProofStep). is_hinted ss (first + j)) (drop-append-le i seen (s ∷ []) le))

    stale : (j i : ℕ) (b : Bool) → j < length last → length seen < i → nat_lt i (if b then passed else slice_index last j) ≡ false
    stale j i true lt gt = le-ltb i passed (past i passed (length seen) size gt)
      where
        past : (i p l : ℕ) → p ≡ l + 1 → l < i → p ≤ i
        past i p l e g = omega arith
    stale j i false lt gt = told.tells j i lt ∙ ap (λ (ss : List ProofStep). is_hinted ss (first + j)) (none_behind i seen (omega arith))

    back : (j i : ℕ) → j < length last → length seen < i → nat_lt i (if contains (first + j) (hints_of s) then passed else slice_index last j) ≡ is_hinted (drop i (seen ++ s ∷ [])) (first + j)
    back j i lt gt =
        stale j i (contains (first + j) (hints_of s)) lt gt
        ∙ sym (ap (λ (ss : List ProofStep). is_hinted ss (first + j)) (none_behind i (seen ++ s ∷ []) (long i (length seen) (length (seen ++ s ∷ [])) (length-append seen (s ∷ [])) gt)))
      where
        long : (i l m : ℕ) → m ≡ l + 1 → l < i → m ≤ i
        long i l m e g = omega arith

    each : (j i : ℕ) → j < length (noted first passed last (hints_of s)) → nat_lt i (slice_index (noted first passed last (hints_of s)) j) ≡ is_hinted (drop i (seen ++ s ∷ [])) (first + j)
    each j i lt =
        let low : j < length last = subst (λ (n : ℕ). j < n) (length-noted first passed last (hints_of s)) lt in
        ap (nat_lt i) (noted_at first passed last (hints_of s) j low) ∙ (elim (cases_lt (length seen) i) [ inl gt ↦ back j i low gt | inr le ↦ front j i low le ])

tells_all : (first : ℕ) (seen : List ProofStep) (last : List ℕ) (passed : ℕ) (ss : List ProofStep) → passed ≡ length seen → Tells first seen last → Tells first (seen ++ ss) (noted_from first passed last ss)
tells_all first seen last passed [] size told = subst (λ (xs : List ProofStep). Tells first xs last) (sym (append-nil seen)) told
tells_all first seen last passed (s ∷ ss) size told =
    subst (λ (xs : List ProofStep). Tells first xs (noted_from first (passed + 1) (noted first (passed + 1) last (hints_of s)) ss)) (append_assoc seen (s ∷ []) ss)
    (tells_all first (seen ++ s ∷ []) (noted first (passed + 1) last (hints_of s)) (passed + 1) ss (next passed (length seen) (length (seen ++ s ∷ [])) size (length-append seen (s ∷ [])))
    (tells_more first seen last s (passed + 1) (one passed (length seen) size) told))
  where
    next : (p l m : ℕ) → p ≡ l → m ≡ l + 1 → p + 1 ≡ m
    next p l m e g = omega arith

    one : (p l : ℕ) → p ≡ l → p + 1 ≡ l + 1
    one p l e = omega arith

zero_at : (steps : List ProofStep) (j : ℕ) → slice_index (zeros steps) j ≡ 0
zero_at [] j = refl
zero_at (s ∷ ss) zero = refl
zero_at (s ∷ ss) (suc j) = zero_at ss j

tells_none : (first : ℕ) (steps : List ProofStep) → Tells first [] (zeros steps)
tells_none first steps = record { tells = λ j i lt. ap (nat_lt i) (zero_at steps j) ∙ le-ltb i 0 (low i) ∙ sym (ap (λ (ss : List ProofStep). is_hinted ss (first + j)) (none_behind i [] (low i))) }
  where
    low : (i : ℕ) → 0 ≤ i
    low i = omega arith

pub last_uses_tell : (first : ℕ) (steps : List ProofStep) → Tells first steps (last_uses first steps)
last_uses_tell first steps = tells_all first [] (zeros steps) 0 steps refl (tells_none first steps)

length-noted_from : (first passed : ℕ) (last : List ℕ) (ss : List ProofStep) → length (noted_from first passed last ss) ≡ length last
length-noted_from first passed last [] = refl
length-noted_from first passed last (s ∷ ss) = length-noted_from first (passed + 1) (noted first (passed + 1) last (hints_of s)) ss ∙ length-noted first (passed + 1) last (hints_of s)

length-zeros : (steps : List ProofStep) → length (zeros steps) ≡ length steps
length-zeros [] = refl
length-zeros (s ∷ ss) = ap suc (length-zeros ss)

pub length-last_uses : (first : ℕ) (steps : List ProofStep) → length (last_uses first steps) ≡ length steps
length-last_uses first steps = length-noted_from first 0 (zeros steps) steps ∙ length-zeros steps
