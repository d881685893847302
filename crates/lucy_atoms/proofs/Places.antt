-- Where an atom is found.
use Rattle.std.proofs.Common.{◌≡◌, ℕ, zero, suc, ◌+◌, ◌<◌, nat_lt, Bool, true, false, not, ◌&&◌, ◌||◌, if◌then◌else◌, pos, List, [], ◌∷◌, ◌++◌, Option, Some, None, position, length, get_or, refl, ap, sym, ◌∙◌, arith}
use Rattle.std.specs.List.{list_any, position_or_len}
use Rattle.std.specs.Option.{option_map}
use Rattle.std.proofs.lemmas.Bool.Decides.{nat_tests}
use Rattle.lucy_clauses.specs.Sums.{Form, form}
use Rattle.lucy_clauses.specs.Equality.{same_form}
use Rattle.lucy_clauses.specs.EqualForms.{form_decides, form_equivalence}
use Rattle.lucy_atoms.specs.Tables.{place_of, is_among, with_atom, atom_at, differ}
use Rattle.lucy_atoms.specs.Laws.{AtomsAreFound, NumbersStay}

-- ---- the place of the first that passes a test

zero_less : (n : ℕ) → nat_lt 0 (suc n) ≡ true
zero_less n = grind (arith, nat_tests)

one_more : (m n : ℕ) → nat_lt (1 + m) (suc n) ≡ nat_lt m n
one_more m n = grind (arith, nat_tests)

next_place : (t : Bool) (m : ℕ) → (if t then Some (1 + m) else None) ≡ option_map suc (if t then Some m else None)
next_place true m =
    let e : 1 + m ≡ suc m = omega arith in
    ap (λ (n : ℕ). Some n) e
next_place false m = refl

place_by : (b : Bool) (m n : ℕ) → (if nat_lt (if not b then 1 + m else 0) (suc n) then Some (if not b then 1 + m else 0) else None) ≡ (if b then Some 0 else option_map suc (if nat_lt m n then Some m else None))
place_by true m n = ap (λ (t : Bool). if t then Some 0 else None) (zero_less n)
place_by false m n = ap (λ (t : Bool). if t then Some (1 + m) else None) (one_more m n) ∙ next_place (nat_lt m n) m

-- one place, or else another
abbrev pub or_else : Option ℕ → Option ℕ → Option ℕ
or_else (Some n) o = Some n
or_else None o = o

or_else_next : (o : Option ℕ) (b : Bool) (n : ℕ) → option_map suc (or_else o (if b then Some n else None)) ≡ or_else (option_map suc o) (if b then Some (suc n) else None)
or_else_next (Some m) b n = refl
or_else_next None true n = refl
or_else_next None false n = refl

module _ {X : Type 0} (p : X → Bool) where
  pub position_cons : (x : X) (xs : List X) → position p (x ∷ xs) ≡ (if p x then Some 0 else option_map suc (position p xs))
  position_cons x xs = place_by (p x) (position_or_len p xs) (length xs)

  pub position_here : (x : X) (xs : List X) → p x ≡ true → position p (x ∷ xs) ≡ Some 0
  position_here x xs e = position_cons x xs ∙ ap (λ (b : Bool). if b then Some 0 else option_map suc (position p xs)) e

  pub position_later : (x : X) (xs : List X) → p x ≡ false → position p (x ∷ xs) ≡ option_map suc (position p xs)
  position_later x xs e = position_cons x xs ∙ ap (λ (b : Bool). if b then Some 0 else option_map suc (position p xs)) e

  pub position_push : (xs : List X) (a : X) → position p (xs ++ a ∷ []) ≡ or_else (position p xs) (if p a then Some (length xs) else None)
  position_push [] a = position_cons a [] ∙ by_test (p a)
    where
      by_test : (b : Bool) → (if b then Some 0 else option_map suc (position p [])) ≡ or_else (position p []) (if b then Some 0 else None)
      by_test true = refl
      by_test false = refl
  position_push (x ∷ xs) a = by_test (p x) refl (position_push xs a)
    where
      by_test : (b : Bool) → p x ≡ b → position p (xs ++ a ∷ []) ≡ or_else (position p xs) (if p a then Some (length xs) else None) → position p (x ∷ (xs ++ a ∷ [])) ≡ or_else (position p (x ∷ xs)) (if p a then Some (suc (length xs)) else None)
      by_test true e ih = position_here x (xs ++ a ∷ []) e ∙ ap (λ (o : Option ℕ). or_else o (if p a then Some (suc (length xs)) else None)) (sym (position_here x xs e))
      by_test false e ih =
          position_later x (xs ++ a ∷ []) e ∙ ap (option_map suc) ih ∙ or_else_next (position p xs) (p a) (length xs)
          ∙ ap (λ (o : Option ℕ). or_else o (if p a then Some (suc (length xs)) else None)) (sym (position_later x xs e))

  pub none_passes : (xs : List X) → list_any p xs ≡ false → position p xs ≡ None
  none_passes [] h = refl
  none_passes (x ∷ xs) h = by_test (p x) refl h (none_passes xs)
    where
      by_test : (b : Bool) → p x ≡ b → (b || list_any p xs) ≡ false → (list_any p xs ≡ false → position p xs ≡ None) → position p (x ∷ xs) ≡ None
      by_test true e h ih = absurd (cc)
      by_test false e h ih = position_later x xs e ∙ ap (option_map suc) (ih h)

  pub none_there : (xs : List X) → position p xs ≡ None → list_any p xs ≡ false
  none_there [] h = refl
  none_there (x ∷ xs) h = by_test (p x) refl (none_there xs)
    where
      no_place : (o : Option ℕ) → option_map suc o ≡ None → o ≡ None
      no_place None e = refl
      no_place (Some n) e = absurd (cc)

      apart : (n : ℕ) → Some n ≡ None → ⊥
      apart n e = cc

      by_test : (b : Bool) → p x ≡ b → (position p xs ≡ None → list_any p xs ≡ false) → (b || list_any p xs) ≡ false
      by_test true e ih =
          absurd (apart 0 (sym (position_here x xs e) ∙ h))
      by_test false e ih = ih (no_place (position p xs) (sym (position_later x xs e) ∙ h))

  pub one_there : (xs : List X) (n : ℕ) → position p xs ≡ Some n → list_any p xs ≡ true
  one_there xs n h = by_test (list_any p xs) refl
    where
      apart : None ≡ Some n → ⊥
      apart e = cc

      by_test : (b : Bool) → list_any p xs ≡ b → b ≡ true
      by_test true e = refl
      by_test false e = absurd (apart (sym (none_passes xs e) ∙ h))

  pub place_within : (xs : List X) (n : ℕ) → position p xs ≡ Some n → n < length xs
  place_within xs n h = by_test (nat_lt (position_or_len p xs) (length xs)) refl h
    where
      less : (m k : ℕ) → nat_lt m k ≡ true → m < k
      less m k e = grind (arith, nat_tests)

      by_test : (b : Bool) → nat_lt (position_or_len p xs) (length xs) ≡ b → (if b then Some (position_or_len p xs) else None) ≡ Some n → n < length xs
      by_test true e h =
          let same : position_or_len p xs ≡ n = cc in
          rw (← same) (less (position_or_len p xs) (length xs) e)
      by_test false e h = absurd (cc)

  pub at_fails : (xs : List X) (n : ℕ) (d : X) → n < length xs → list_any p xs ≡ false → p (get_or xs n d) ≡ false
  at_fails [] n d lt h = absurd (omega arith)
  at_fails (x ∷ xs) n d lt h = by_test n (p x) refl h lt (λ m k none. at_fails xs m d k none)
    where
      by_test : (n : ℕ) (b : Bool) → p x ≡ b → (b || list_any p xs) ≡ false → n < length (x ∷ xs) → ((m : ℕ) → m < length xs → list_any p xs ≡ false → p (get_or xs m d) ≡ false) → p (get_or (x ∷ xs) n d) ≡ false
      by_test n true e h lt ih = absurd (cc)
      by_test zero false e h lt ih = e
      by_test (suc m) false e h lt ih = ih m (omega arith) h

-- ---- atoms

itself : (t : Form) → same_form t t ≡ true
itself t = (form_decides t t).1 refl

isnt : (b : Bool) → not b ≡ true → b ≡ false
isnt true e = absurd (cc)
isnt false e = refl

both : (a b : Bool) → (a && b) ≡ true → (a ≡ true) × (b ≡ true)
both true b e = (refl, e)
both false b e = absurd (cc)

pub found : AtomsAreFound
found [] n all lt = absurd (omega arith)
found (t ∷ ts) zero all lt = position_here (same_form t) t ts (itself t)
found (t ∷ ts) (suc n) all lt =
    let parts = both (not (is_among ts t)) (differ ts) all in
    let later : n < length ts = omega arith in
    let other = form_equivalence.symm (atom_at ts n) t ∙ at_fails (same_form t) ts n (form [] (pos 0)) later (isnt (is_among ts t) parts.0) in
    position_later (same_form (atom_at ts n)) t ts other ∙ ap (option_map suc) (found ts n parts.1 later)

pub stays : NumbersStay
stays atoms t u n h = by_test (is_among atoms u)
  where
    by_test : (b : Bool) → place_of (if b then atoms else atoms ++ u ∷ []) t ≡ Some n
    by_test true = h
    by_test false = position_push (same_form t) atoms u ∙ ap (λ (o : Option ℕ). or_else o (if same_form t u then Some (length atoms) else None)) h

pub found_last : (atoms : List Form) (t : Form) → is_among atoms t ≡ false → place_of (atoms ++ t ∷ []) t ≡ Some (length atoms)
found_last atoms t none =
    position_push (same_form t) atoms t
    ∙ ap (λ (o : Option ℕ). or_else o (if same_form t t then Some (length atoms) else None)) (none_passes (same_form t) atoms none)
    ∙ ap (λ (b : Bool). if b then Some (length atoms) else None) (itself t)

among-append : (ts : List Form) (u t : Form) → is_among (ts ++ u ∷ []) t ≡ (is_among ts t || same_form t u)
among-append [] u t = by_test (same_form t u)
  where
    by_test : (b : Bool) → (b || false) ≡ (false || b)
    by_test true = refl
    by_test false = refl
among-append (x ∷ ts) u t = by_test (same_form t x) (among-append ts u t)
  where
    by_test : (b : Bool) → is_among (ts ++ u ∷ []) t ≡ (is_among ts t || same_form t u) → (b || is_among (ts ++ u ∷ []) t) ≡ ((b || is_among ts t) || same_form t u)
    by_test true e = refl
    by_test false e = e

pub differ_push : (ts : List Form) (u : Form) → differ ts ≡ true → is_among ts u ≡ false → differ (ts ++ u ∷ []) ≡ true
differ_push [] u all none = refl
differ_push (t ∷ ts) u all none =
    let parts = both (not (is_among ts t)) (differ ts) all in
    by_tests (same_form u t) (is_among ts u) refl none parts (differ_push ts u parts.1)
  where
    by_tests : (b c : Bool) → same_form u t ≡ b → (b || c) ≡ false → (not (is_among ts t) ≡ true) × (differ ts ≡ true) → (c ≡ false → differ (ts ++ u ∷ []) ≡ true) → (not (is_among (ts ++ u ∷ []) t) && differ (ts ++ u ∷ [])) ≡ true
    by_tests true c e h parts ih = absurd (cc)
    by_tests false c e h parts ih =
        let here : is_among (ts ++ u ∷ []) t ≡ false = among-append ts u t ∙ ap (λ (x : Bool). x || same_form t u) (isnt (is_among ts t) parts.0) ∙ form_equivalence.symm t u ∙ e in
        ap (λ (x : Bool). not x && differ (ts ++ u ∷ [])) here ∙ ih h

pub kept_place : (atoms : List Form) (t : Form) (n : ℕ) → Some n ≡ place_of atoms t → is_among atoms t ≡ true
kept_place atoms t n e = one_there (same_form t) atoms n (sym e)

pub no_place : (atoms : List Form) (t : Form) → None ≡ place_of atoms t → is_among atoms t ≡ false
no_place atoms t e = none_there (same_form t) atoms (sym e)

pub put_there : (atoms : List Form) (t : Form) → is_among atoms t ≡ false → atoms ++ t ∷ [] ≡ with_atom atoms t
put_there atoms t none = ap (λ (b : Bool). if b then atoms else atoms ++ t ∷ []) (sym none)

pub kept_there : (atoms : List Form) (t : Form) → is_among atoms t ≡ true → atoms ≡ with_atom atoms t
kept_there atoms t is = ap (λ (b : Bool). if b then atoms else atoms ++ t ∷ []) (sym is)
