-- A proof checked a step at a time has the fault of the whole proof.
use Rattle.std.proofs.Common.{◌≡◌, ℕ, zero, suc, ◌+◌, ◌-◌, ◌<◌, ◌≤◌, ◌==◌, nat_lt, nat_le, eqb-true, Bool, true, false, not, ◌&&◌, ◌||◌, List, [], ◌∷◌, ◌++◌, length, map, fold, slice_get, Option, Some, None, if◌then◌else◌, refl, sym, ◌∙◌, ap, subst, arith, length-append, append_assoc}
use Rattle.std.specs.List.{list_all, list_any}
use Rattle.std.specs.Option.{option_or}
use Rattle.std.proofs.lemmas.Bool.Decides.{nat_tests}
use Rattle.lucy_clauses.specs.declared.formulas.Clause.{Clause}
use Rattle.lucy_clauses.specs.declared.formulas.Formula.{Formula}
use Rattle.lucy_clauses.specs.Sums.{Form, complement}
use Rattle.lucy_clauses.proofs.Mapping.{two_tests, both_tests}
use Rattle.lucy_cert.specs.declared.steps.ProofStep.{ProofStep}
use Rattle.lucy_cert.specs.declared.steps.ProofStep.TheVariants.{Lemma, Rup, Drop}
use Rattle.lucy_cert.specs.declared.steps.Why.{Why}
use Rattle.lucy_cert.specs.declared.steps.Why.TheVariants.{Unknown}
use Rattle.lucy_cert.specs.Numbers.{contains}
use Rattle.lucy_cert.specs.Justified.{Known, nothing, without, after, clause_at, open_atoms, by_clause, by_open, is_last, rup_fault, where_known, is_held, live_clauses, live_fault}
use Rattle.lucy_cert.specs.Justified as rule
use Rattle.lucy_cert.specs.Refuting.{is_empty, has_empty, fault_or, ending_fault, first_fault}
use Rattle.lucy_checker.specs.declared.progress.Fault.{Fault}
use Rattle.lucy_checker.specs.declared.progress.Progress.{Progress}
use Rattle.lucy_checker.specs.Held.{Kept, named, other_numbers, other_clauses, kept_with, kept_without}
use Rattle.lucy_checker.specs.Checking.{clause_in, all_kept, drop_fault, rule_fault, added_after, dropped_after, live_after, step_fault, kept_after, adds_empty, advanced, failed, by_fault, unless_failed, progressed, begun, end_fault, fault_at_end, progress_of}

-- ---- tests

number_is : (m n : ℕ) → (m == n) ≡ true → m ≡ n
number_is m n h = eqb-true m n h

differ_below : (m n : ℕ) → m < n → (m == n) ≡ false
differ_below m n h = grind (arith, nat_tests)

-- ---- the clauses that were not dropped

-- `at` is the number of the first clause
abbrev pub numbers_left : ℕ → List ℕ → List Clause → List ℕ
numbers_left at d [] = []
numbers_left at d (c ∷ cs) = if contains at d then numbers_left (at + 1) d cs else (at ∷ numbers_left (at + 1) d cs)

abbrev pub clauses_left : ℕ → List ℕ → List Clause → List Clause
clauses_left at d [] = []
clauses_left at d (c ∷ cs) = if contains at d then clauses_left (at + 1) d cs else (c ∷ clauses_left (at + 1) d cs)

abbrev pub kept_of : ℕ → Known → Kept
kept_of count k = record {
  next = count + length k.added;
  numbers = numbers_left count k.dropped k.added;
  clauses = clauses_left count k.dropped k.added;
}

none_below : (at : ℕ) (d : List ℕ) (cs : List Clause) (n : ℕ) → n < at → named (numbers_left at d cs) (clauses_left at d cs) n ≡ None
none_below at d [] n h = refl
none_below at d (c ∷ cs) n h = by_test (none_below (at + 1) d cs n (omega arith)) (contains at d)
  where
    by_test : named (numbers_left (at + 1) d cs) (clauses_left (at + 1) d cs) n ≡ None → (b : Bool) → named (if b then numbers_left (at + 1) d cs else (at ∷ numbers_left (at + 1) d cs)) (if b then clauses_left (at + 1) d cs else (c ∷ clauses_left (at + 1) d cs)) n ≡ None
    by_test rest true = rest
    by_test rest false = ap (λ (b : Bool). if b then Some c else named (numbers_left (at + 1) d cs) (clauses_left (at + 1) d cs) n) (differ_below n at h) ∙ rest

unless : {A : Type 0} (b : Bool) (x : Option A) → b ≡ true → (if b then None else x) ≡ None
unless true x h = refl
unless false x h = absurd (cc)

pub named_left : (at : ℕ) (d : List ℕ) (cs : List Clause) (n j : ℕ) → n ≡ at + j → named (numbers_left at d cs) (clauses_left at d cs) n ≡ (if contains n d then None else slice_get cs j)
named_left at d [] n j e = by_test (contains n d)
  where
    by_test : (b : Bool) → None ≡ (if b then None else slice_get {X = Clause} [] j)
    by_test true = refl
    by_test false = refl
named_left at d (c ∷ cs) n zero e = by_test (contains at d) refl
  where
    same : n ≡ at
    same = omega arith

    by_test : (b : Bool) → contains at d ≡ b → named (if b then numbers_left (at + 1) d cs else (at ∷ numbers_left (at + 1) d cs)) (if b then clauses_left (at + 1) d cs else (c ∷ clauses_left (at + 1) d cs)) n ≡ (if contains n d then None else Some c)
    by_test true h =
        let dropped : contains n d ≡ true = ap (λ (m : ℕ). contains m d) same ∙ h in
        none_below (at + 1) d cs n (omega arith) ∙ sym (unless (contains n d) (Some c) dropped)
    by_test false h =
        let kept : contains n d ≡ false = ap (λ (m : ℕ). contains m d) same ∙ h in
        let here : (n == at) ≡ true = test_here n at same in
        ap (λ (b : Bool). if b then Some c else named (numbers_left (at + 1) d cs) (clauses_left (at + 1) d cs) n) here ∙ sym (ap (λ (b : Bool). if b then None else Some c) kept)
      where
        test_here : (n at : ℕ) → n ≡ at → (n == at) ≡ true
        test_here n at h = grind (arith, nat_tests)
named_left at d (c ∷ cs) n (suc j) e = by_test (named_left (at + 1) d cs n j (omega arith)) (contains at d)
  where
    later : (n at j : ℕ) → n ≡ at + suc j → (n == at) ≡ false
    later n at j h = grind (arith, nat_tests)

    by_test : named (numbers_left (at + 1) d cs) (clauses_left (at + 1) d cs) n ≡ (if contains n d then None else slice_get cs j) → (b : Bool) → named (if b then numbers_left (at + 1) d cs else (at ∷ numbers_left (at + 1) d cs)) (if b then clauses_left (at + 1) d cs else (c ∷ clauses_left (at + 1) d cs)) n ≡ (if contains n d then None else slice_get cs j)
    by_test rest true = rest
    by_test rest false = ap (λ (b : Bool). if b then Some c else named (numbers_left (at + 1) d cs) (clauses_left (at + 1) d cs) n) (later n at j e) ∙ rest

-- ---- which numbers are left

le_next : (at n : ℕ) → (n == at) ≡ false → nat_le (at + 1) n ≡ nat_le at n
le_next at n h = grind (arith, nat_tests)

lt_next : (at n l : ℕ) → nat_lt n (at + 1 + l) ≡ nat_lt n (at + suc l)
lt_next at n l = grind (arith, nat_tests)

not_next : (at n : ℕ) → (n == at) ≡ true → nat_le (at + 1) n ≡ false
not_next at n h = grind (arith, nat_tests)

own_first : (at n : ℕ) → (n == at) ≡ true → nat_le at n ≡ true
own_first at n h = grind (arith, nat_tests)

own_last : (at n l : ℕ) → (n == at) ≡ true → nat_lt n (at + suc l) ≡ true
own_last at n l h = grind (arith, nat_tests)

none_left : (at n : ℕ) → (nat_le at n && nat_lt n (at + 0)) ≡ false
none_left at n = by_test (nat_lt n (at + 0)) refl
  where
    by_test : (b : Bool) → nat_lt n (at + 0) ≡ b → (nat_le at n && b) ≡ false
    by_test true h = ap (λ (b : Bool). b && true) (above at n h)
      where
        above : (at n : ℕ) → nat_lt n (at + 0) ≡ true → nat_le at n ≡ false
        above at n h = grind (arith, nat_tests)
    by_test false h = no_both (nat_le at n)
      where
        no_both : (b : Bool) → (b && false) ≡ false
        no_both true = refl
        no_both false = refl

pub contains_left : (at : ℕ) (d : List ℕ) (cs : List Clause) (n : ℕ) → contains n (numbers_left at d cs) ≡ (nat_le at n && nat_lt n (at + length cs) && not (contains n d))
contains_left at d [] n = sym (ap (λ (b : Bool). b && not (contains n d)) (none_left at n))
contains_left at d (c ∷ cs) n = by_place (contains_left (at + 1) d cs n) (n == at) refl
  where
    no_both : (b : Bool) → (b && false) ≡ false
    no_both true = refl
    no_both false = refl

    by_place : contains n (numbers_left (at + 1) d cs) ≡ (nat_le (at + 1) n && nat_lt n (at + 1 + length cs) && not (contains n d)) → (p : Bool) → (n == at) ≡ p → contains n (if contains at d then numbers_left (at + 1) d cs else (at ∷ numbers_left (at + 1) d cs)) ≡ (nat_le at n && nat_lt n (at + suc (length cs)) && not (contains n d))
    by_place rest true h = by_test (contains at d) refl
      where
        later : contains n (numbers_left (at + 1) d cs) ≡ false
        later = rest ∙ ap (λ (b : Bool). b && nat_lt n (at + 1 + length cs) && not (contains n d)) (not_next at n h)

        by_test : (b : Bool) → contains at d ≡ b → contains n (if b then numbers_left (at + 1) d cs else (at ∷ numbers_left (at + 1) d cs)) ≡ (nat_le at n && nat_lt n (at + suc (length cs)) && not (contains n d))
        by_test true e =
            let dropped : contains n d ≡ true = ap (λ (m : ℕ). contains m d) (number_is n at h) ∙ e in
            later ∙ sym (ap (λ (b : Bool). nat_le at n && nat_lt n (at + suc (length cs)) && not b) dropped ∙ no_both (nat_le at n && nat_lt n (at + suc (length cs))))
        by_test false e =
            let kept : contains n d ≡ false = ap (λ (m : ℕ). contains m d) (number_is n at h) ∙ e in
            ap (λ (b : Bool). b || contains n (numbers_left (at + 1) d cs)) h
            ∙ sym (ap (λ (b : Bool). nat_le at n && nat_lt n (at + suc (length cs)) && not b) kept ∙ ap (λ (b : Bool). b && nat_lt n (at + suc (length cs)) && true) (own_first at n h) ∙ ap (λ (b : Bool). b && true) (own_last at n (length cs) h))
    by_place rest false h = by_test (contains at d)
      where
        same : (nat_le (at + 1) n && nat_lt n (at + 1 + length cs) && not (contains n d)) ≡ (nat_le at n && nat_lt n (at + suc (length cs)) && not (contains n d))
        same = ap (λ (b : Bool). b && nat_lt n (at + 1 + length cs) && not (contains n d)) (le_next at n h) ∙ ap (λ (b : Bool). nat_le at n && b && not (contains n d)) (lt_next at n (length cs))

        by_test : (b : Bool) → contains n (if b then numbers_left (at + 1) d cs else (at ∷ numbers_left (at + 1) d cs)) ≡ (nat_le at n && nat_lt n (at + suc (length cs)) && not (contains n d))
        by_test true = rest ∙ same
        by_test false = ap (λ (b : Bool). b || contains n (numbers_left (at + 1) d cs)) h ∙ rest ∙ same

-- ---- one clause more

pub left-push : (at : ℕ) (d : List ℕ) (cs : List Clause) (c : Clause) (n : ℕ) → n ≡ at + length cs → contains n d ≡ false → (numbers_left at d (cs ++ c ∷ []) ≡ numbers_left at d cs ++ n ∷ []) × (clauses_left at d (cs ++ c ∷ []) ≡ clauses_left at d cs ++ c ∷ [])
left-push at d [] c n e h =
    let same : at ≡ n = omega arith in
    let kept : contains at d ≡ false = ap (λ (m : ℕ). contains m d) same ∙ h in
    (ap (λ (b : Bool). if b then [] else (at ∷ [])) kept ∙ ap (λ (m : ℕ). m ∷ []) same, ap (λ (b : Bool). if b then [] else (c ∷ [])) kept)
left-push at d (b ∷ cs) c n e h = by_test (left-push (at + 1) d cs c n (omega arith) h) (contains at d)
  where
    by_test : (numbers_left (at + 1) d (cs ++ c ∷ []) ≡ numbers_left (at + 1) d cs ++ n ∷ []) × (clauses_left (at + 1) d (cs ++ c ∷ []) ≡ clauses_left (at + 1) d cs ++ c ∷ []) → (t : Bool) → ((if t then numbers_left (at + 1) d (cs ++ c ∷ []) else (at ∷ numbers_left (at + 1) d (cs ++ c ∷ []))) ≡ (if t then numbers_left (at + 1) d cs else (at ∷ numbers_left (at + 1) d cs)) ++ n ∷ []) × ((if t then clauses_left (at + 1) d (cs ++ c ∷ []) else (b ∷ clauses_left (at + 1) d (cs ++ c ∷ []))) ≡ (if t then clauses_left (at + 1) d cs else (b ∷ clauses_left (at + 1) d cs)) ++ c ∷ [])
    by_test rest true = rest
    by_test rest false = (ap (λ (ms : List ℕ). at ∷ ms) rest.0, ap (λ (ds : List Clause). b ∷ ds) rest.1)

-- ---- one clause less

contains-push : (m : ℕ) (d : List ℕ) (n : ℕ) → contains m (d ++ n ∷ []) ≡ (contains m d || (m == n))
contains-push m [] n = or_no (m == n)
  where
    or_no : (b : Bool) → (b || false) ≡ b
    or_no true = refl
    or_no false = refl
contains-push m (k ∷ d) n = ap (λ (b : Bool). (m == k) || b) (contains-push m d n) ∙ group (m == k) (contains m d) (m == n)
  where
    group : (a b c : Bool) → (a || (b || c)) ≡ ((a || b) || c)
    group true b c = refl
    group false b c = refl

or_false : (b c : Bool) → c ≡ false → (b || c) ≡ b
or_false true c h = refl
or_false false c h = h

-- a number below does not matter
left_above : (at : ℕ) (d : List ℕ) (cs : List Clause) (n : ℕ) → n < at → (numbers_left at (d ++ n ∷ []) cs ≡ numbers_left at d cs) × (clauses_left at (d ++ n ∷ []) cs ≡ clauses_left at d cs)
left_above at d [] n h = (refl, refl)
left_above at d (c ∷ cs) n h = joined (left_above (at + 1) d cs n (omega arith)) (contains at (d ++ n ∷ [])) (contains at d) (contains-push at d n ∙ or_false (contains at d) (at == n) (differ_above at n h))
  where
    differ_above : (at n : ℕ) → n < at → (at == n) ≡ false
    differ_above at n h = grind (arith, nat_tests)

    joined : (numbers_left (at + 1) (d ++ n ∷ []) cs ≡ numbers_left (at + 1) d cs) × (clauses_left (at + 1) (d ++ n ∷ []) cs ≡ clauses_left (at + 1) d cs) → (s t : Bool) → s ≡ t → ((if s then numbers_left (at + 1) (d ++ n ∷ []) cs else (at ∷ numbers_left (at + 1) (d ++ n ∷ []) cs)) ≡ (if t then numbers_left (at + 1) d cs else (at ∷ numbers_left (at + 1) d cs))) × ((if s then clauses_left (at + 1) (d ++ n ∷ []) cs else (c ∷ clauses_left (at + 1) (d ++ n ∷ []) cs)) ≡ (if t then clauses_left (at + 1) d cs else (c ∷ clauses_left (at + 1) d cs)))
    joined rest true true e = rest
    joined rest false false e = (ap (λ (ms : List ℕ). at ∷ ms) rest.0, ap (λ (ds : List Clause). c ∷ ds) rest.1)
    joined rest true false e = absurd (cc)
    joined rest false true e = absurd (cc)

left_without : (at : ℕ) (d : List ℕ) (cs : List Clause) (n : ℕ) → (numbers_left at (d ++ n ∷ []) cs ≡ other_numbers n (numbers_left at d cs)) × (clauses_left at (d ++ n ∷ []) cs ≡ other_clauses n (numbers_left at d cs) (clauses_left at d cs))
left_without at d [] n = (refl, refl)
left_without at d (c ∷ cs) n = by_test (left_without (at + 1) d cs n) (contains at d) refl
  where
    by_test : (numbers_left (at + 1) (d ++ n ∷ []) cs ≡ other_numbers n (numbers_left (at + 1) d cs)) × (clauses_left (at + 1) (d ++ n ∷ []) cs ≡ other_clauses n (numbers_left (at + 1) d cs) (clauses_left (at + 1) d cs)) → (t : Bool) → contains at d ≡ t → ((if contains at (d ++ n ∷ []) then numbers_left (at + 1) (d ++ n ∷ []) cs else (at ∷ numbers_left (at + 1) (d ++ n ∷ []) cs)) ≡ other_numbers n (if t then numbers_left (at + 1) d cs else (at ∷ numbers_left (at + 1) d cs))) × ((if contains at (d ++ n ∷ []) then clauses_left (at + 1) (d ++ n ∷ []) cs else (c ∷ clauses_left (at + 1) (d ++ n ∷ []) cs)) ≡ other_clauses n (if t then numbers_left (at + 1) d cs else (at ∷ numbers_left (at + 1) d cs)) (if t then clauses_left (at + 1) d cs else (c ∷ clauses_left (at + 1) d cs)))
    by_test rest true h =
        let dropped : contains at (d ++ n ∷ []) ≡ true = contains-push at d n ∙ ap (λ (b : Bool). b || (at == n)) h in (
          ap (λ (b : Bool). if b then numbers_left (at + 1) (d ++ n ∷ []) cs else (at ∷ numbers_left (at + 1) (d ++ n ∷ []) cs)) dropped ∙ rest.0,
          ap (λ (b : Bool). if b then clauses_left (at + 1) (d ++ n ∷ []) cs else (c ∷ clauses_left (at + 1) (d ++ n ∷ []) cs)) dropped ∙ rest.1,
        )
    by_test rest false h = by_place (n == at) refl
      where
        here : contains at (d ++ n ∷ []) ≡ (at == n)
        here = contains-push at d n ∙ ap (λ (b : Bool). b || (at == n)) h

        turned : (n at : ℕ) (p : Bool) → (n == at) ≡ p → (at == n) ≡ p
        turned n at true e = grind (arith, nat_tests)
        turned n at false e = grind (arith, nat_tests)

        below : (n at : ℕ) → (n == at) ≡ true → n < at + 1
        below n at h = grind (arith, nat_tests)

        by_place : (p : Bool) → (n == at) ≡ p → ((if contains at (d ++ n ∷ []) then numbers_left (at + 1) (d ++ n ∷ []) cs else (at ∷ numbers_left (at + 1) (d ++ n ∷ []) cs)) ≡ (if p then numbers_left (at + 1) d cs else (at ∷ other_numbers n (numbers_left (at + 1) d cs)))) × ((if contains at (d ++ n ∷ []) then clauses_left (at + 1) (d ++ n ∷ []) cs else (c ∷ clauses_left (at + 1) (d ++ n ∷ []) cs)) ≡ (if p then clauses_left (at + 1) d cs else (c ∷ other_clauses n (numbers_left (at + 1) d cs) (clauses_left (at + 1) d cs))))
        by_place true e =
            let more = left_above (at + 1) d cs n (below n at e) in
            let gone : contains at (d ++ n ∷ []) ≡ true = here ∙ turned n at true e in (
              ap (λ (b : Bool). if b then numbers_left (at + 1) (d ++ n ∷ []) cs else (at ∷ numbers_left (at + 1) (d ++ n ∷ []) cs)) gone ∙ more.0,
              ap (λ (b : Bool). if b then clauses_left (at + 1) (d ++ n ∷ []) cs else (c ∷ clauses_left (at + 1) (d ++ n ∷ []) cs)) gone ∙ more.1,
            )
        by_place false e =
            let stays : contains at (d ++ n ∷ []) ≡ false = here ∙ turned n at false e in (
              ap (λ (b : Bool). if b then numbers_left (at + 1) (d ++ n ∷ []) cs else (at ∷ numbers_left (at + 1) (d ++ n ∷ []) cs)) stays ∙ ap (λ (ms : List ℕ). at ∷ ms) rest.0,
              ap (λ (b : Bool). if b then clauses_left (at + 1) (d ++ n ∷ []) cs else (c ∷ clauses_left (at + 1) (d ++ n ∷ []) cs)) stays ∙ ap (λ (ds : List Clause). c ∷ ds) rest.1,
            )

kept_as : ℕ → List ℕ → List Clause → Kept
kept_as next ms cs = record { next = next; numbers = ms; clauses = cs }

kept_without_is : (count : ℕ) (k : Known) (n : ℕ) → kept_without (kept_of count k) n ≡ kept_of count (without k (n ∷ []))
unfolding kept_as
kept_without_is count k n =
    let left = left_without count k.dropped k.added n in
    ap (λ (ms : List ℕ). kept_as (count + length k.added) ms (other_clauses n (numbers_left count k.dropped k.added) (clauses_left count k.dropped k.added))) (sym left.0)
    ∙ ap (λ (cs : List Clause). kept_as (count + length k.added) (numbers_left count (k.dropped ++ n ∷ []) k.added) cs) (sym left.1)

without_twice : (k : Known) (n : ℕ) (ns : List ℕ) → without (without k (n ∷ [])) ns ≡ without k (n ∷ ns)
without_twice k n ns = ap (λ (d : List ℕ). known_as k.added d) (append_assoc k.dropped (n ∷ []) ns)
  where
    known_as : List Clause → List ℕ → Known
    known_as cs d = record { added = cs; dropped = d }

without_nothing : (k : Known) → without k [] ≡ k
without_nothing k = ap (λ (d : List ℕ). known_as k.added d) (append_none k.dropped)
  where
    known_as : List Clause → List ℕ → Known
    known_as cs d = record { added = cs; dropped = d }

    append_none : (xs : List ℕ) → xs ++ [] ≡ xs
    append_none [] = refl
    append_none (x ∷ xs) = ap (λ ys. x ∷ ys) (append_none xs)

pub kept_without_all : (count : ℕ) (k : Known) (ns : List ℕ) → fold kept_without (kept_of count k) ns ≡ kept_of count (without k ns)
kept_without_all count k [] = ap (kept_of count) (sym (without_nothing k))
kept_without_all count k (n ∷ ns) =
    ap (λ (q : Kept). fold kept_without q ns) (kept_without_is count k n)
    ∙ kept_without_all count (without k (n ∷ [])) ns
    ∙ ap (kept_of count) (without_twice k n ns)
