-- Clauses by numbers that ascend.
use Rattle.std.proofs.Common.{◌≡◌, ◌≢◌, ℕ, zero, suc, ◌+◌, ◌<◌, ◌≤◌, ◌==◌, nat_lt, eqb-true, Bool, true, false, ◌&&◌, ◌||◌, List, [], ◌∷◌, ◌++◌, length, take, drop, get_or, slice_get, Option, Some, None, Result, Ok, Err, if◌then◌else◌, refl, sym, ◌∙◌, ap, subst, arith, length-append}
use Rattle.std.specs.List.{list_all, remove}
use Rattle.std.specs.List.Sorted.{IsBinarySearchResult}
use Rattle.std.specs.Ordering.{nat_cmp}
use Rattle.std.proofs.lemmas.List.Sorted.{searched}
use Rattle.std.proofs.lemmas.Bool.Decides.{nat_tests}
use Rattle.lucy_clauses.specs.declared.formulas.Clause.{Clause}
use Rattle.lucy_clauses.proofs.Mapping.{two_tests, both_tests}
use Rattle.lucy_cert.specs.Numbers.{ascend_from, contains}
use Rattle.lucy_checker.specs.Held.{Kept, named, kept_without, other_numbers, other_clauses, ascends, all_below, IsKept}

lt_of : (m n : ℕ) → nat_lt m n ≡ true → m < n
lt_of m n h = grind (arith, nat_tests)

test_of : (m n : ℕ) → m < n → nat_lt m n ≡ true
test_of m n h = grind (arith, nat_tests)

same_test : (n : ℕ) → (n == n) ≡ true
same_test n = grind (arith, nat_tests)

other_test : (m n : ℕ) → m < n → (n == m) ≡ false
other_test m n h = grind (arith, nat_tests)

-- ---- order

pub ascend_weaker : (a m : ℕ) (ms : List ℕ) → a < m → ascend_from m ms ≡ true → ascend_from a ms ≡ true
ascend_weaker a m [] less h = refl
ascend_weaker a m (n ∷ ns) less h =
    let t = two_tests (nat_lt m n) (ascend_from n ns) h in
    both_tests (nat_lt a n) (ascend_from n ns) (through a m n less (lt_of m n t.0)) t.1
  where
    through : (a m n : ℕ) → a < m → m < n → nat_lt a n ≡ true
    through a m n p q = test_of a n (omega arith)

pub ascends_rest : (m : ℕ) (ms : List ℕ) → ascend_from m ms ≡ true → ascends ms ≡ true
ascends_rest m [] h = refl
ascends_rest m (n ∷ ns) h = (two_tests (nat_lt m n) (ascend_from n ns) h).1

above_first : (m : ℕ) (ms : List ℕ) (i : ℕ) → ascend_from m ms ≡ true → i < length ms → m < get_or ms i 0
above_first m [] i h within = absurd (omega arith)
above_first m (n ∷ ns) zero h within = lt_of m n (two_tests (nat_lt m n) (ascend_from n ns) h).0
above_first m (n ∷ ns) (suc i) h within =
    let t = two_tests (nat_lt m n) (ascend_from n ns) h in
    above_first m ns i (ascend_weaker m n ns (lt_of m n t.0) t.1) (omega arith)

pub rises : (ms : List ℕ) → ascends ms ≡ true → (i j : ℕ) → i ≤ j → j < length ms → get_or ms i 0 ≤ get_or ms j 0
rises [] h i j le within = absurd (omega arith)
rises (m ∷ ms) h zero zero le within = omega arith
rises (m ∷ ms) h zero (suc j) le within =
    let above : m < get_or ms j 0 = above_first m ms j h (omega arith) in
    omega arith
rises (m ∷ ms) h (suc i) zero le within = absurd (omega arith)
rises (m ∷ ms) h (suc i) (suc j) le within = rises ms (ascends_rest m ms h) i j (omega arith) (omega arith)

-- ---- places

pub named_at : (ms : List ℕ) (cs : List Clause) (i : ℕ) → ascends ms ≡ true → i < length ms → named ms cs (get_or ms i 0) ≡ slice_get cs i
named_at [] cs i h within = absurd (omega arith)
named_at (m ∷ ms) [] i h within = refl
named_at (m ∷ ms) (c ∷ cs) zero h within = ap (λ (b : Bool). if b then Some c else named ms cs m) (same_test m)
named_at (m ∷ ms) (c ∷ cs) (suc i) h within =
    ap (λ (b : Bool). if b then Some c else named ms cs (get_or ms i 0)) (other_test m (get_or ms i 0) (above_first m ms i h (omega arith)))
    ∙ named_at ms cs i (ascends_rest m ms h) (omega arith)

pub other_numbers_at : (ms : List ℕ) (i : ℕ) → ascends ms ≡ true → i < length ms → other_numbers (get_or ms i 0) ms ≡ remove ms i
other_numbers_at [] i h within = absurd (omega arith)
other_numbers_at (m ∷ ms) zero h within = ap (λ (b : Bool). if b then ms else (m ∷ other_numbers m ms)) (same_test m)
other_numbers_at (m ∷ ms) (suc i) h within =
    ap (λ (b : Bool). if b then ms else (m ∷ other_numbers (get_or ms i 0) ms)) (other_test m (get_or ms i 0) (above_first m ms i h (omega arith)))
    ∙ ap (λ (ns : List ℕ). m ∷ ns) (other_numbers_at ms i (ascends_rest m ms h) (omega arith))

pub other_clauses_at : (ms : List ℕ) (cs : List Clause) (i : ℕ) → ascends ms ≡ true → i < length ms → length ms ≡ length cs → other_clauses (get_or ms i 0) ms cs ≡ remove cs i
other_clauses_at [] cs i h within same = absurd (omega arith)
other_clauses_at (m ∷ ms) [] i h within same = absurd (omega arith)
other_clauses_at (m ∷ ms) (c ∷ cs) zero h within same = ap (λ (b : Bool). if b then cs else (c ∷ other_clauses m ms cs)) (same_test m)
other_clauses_at (m ∷ ms) (c ∷ cs) (suc i) h within same =
    ap (λ (b : Bool). if b then cs else (c ∷ other_clauses (get_or ms i 0) ms cs)) (other_test m (get_or ms i 0) (above_first m ms i h (omega arith)))
    ∙ ap (λ (ds : List Clause). c ∷ ds) (other_clauses_at ms cs i (ascends_rest m ms h) (omega arith) (omega arith))

-- ---- a number that is not there

pub contains_at : (ms : List ℕ) (i : ℕ) → i < length ms → contains (get_or ms i 0) ms ≡ true
contains_at [] i within = absurd (omega arith)
contains_at (m ∷ ms) zero within = ap (λ (b : Bool). b || contains m ms) (same_test m)
contains_at (m ∷ ms) (suc i) within = or_true (get_or ms i 0 == m) (contains (get_or ms i 0) ms) (contains_at ms i (omega arith))
  where
    or_true : (b c : Bool) → c ≡ true → (b || c) ≡ true
    or_true true c h = refl
    or_true false c h = h

pub contains_none : (ms : List ℕ) (n : ℕ) → ((k : ℕ) → k < length ms → get_or ms k 0 ≢ n) → contains n ms ≡ false
contains_none [] n h = refl
contains_none (m ∷ ms) n h =
    ap (λ (b : Bool). b || contains n ms) (differs n m (h 0 (omega arith))) ∙ contains_none ms n (λ k within. h (suc k) (omega arith))
  where
    differs : (n m : ℕ) → m ≢ n → (n == m) ≡ false
    differs n m h = grind (arith, nat_tests, h)

-- what a search says: the place, or that the number is not there
pub unfound : (ms : List ℕ) (n i : ℕ) → ((k : ℕ) → k < i → get_or ms k 0 < n) → ((k : ℕ) → i ≤ k → k < length ms → n < get_or ms k 0) → contains n ms ≡ false
unfound ms n i below above = contains_none ms n (λ k within e. differs k within e)
  where
    differs : (k : ℕ) → k < length ms → get_or ms k 0 ≡ n → ⊥
    differs k within e = by_order (nat_lt k i) refl
      where
        by_order : (b : Bool) → nat_lt k i ≡ b → ⊥
        by_order true h =
            let less : get_or ms k 0 < n = below k (lt_of k i h) in
            omega arith
        by_order false h =
            let more : n < get_or ms k 0 = above k (at_least k i h) within in
            omega arith
          where
            at_least : (k i : ℕ) → nat_lt k i ≡ false → i ≤ k
            at_least k i h = grind (arith, nat_tests)

or_both : (b c : Bool) → (b || c) ≡ false → (b ≡ false) × (c ≡ false)
or_both true c h = absurd (cc)
or_both false c h = (refl, h)

pub named_none : (ms : List ℕ) (cs : List Clause) (n : ℕ) → contains n ms ≡ false → named ms cs n ≡ None
named_none [] cs n h = refl
named_none (m ∷ ms) [] n h = refl
named_none (m ∷ ms) (c ∷ cs) n h =
    let t = or_both (n == m) (contains n ms) h in
    ap (λ (b : Bool). if b then Some c else named ms cs n) t.0 ∙ named_none ms cs n t.1

pub other_numbers_none : (ms : List ℕ) (n : ℕ) → contains n ms ≡ false → other_numbers n ms ≡ ms
other_numbers_none [] n h = refl
other_numbers_none (m ∷ ms) n h =
    let t = or_both (n == m) (contains n ms) h in
    ap (λ (b : Bool). if b then ms else (m ∷ other_numbers n ms)) t.0 ∙ ap (λ (ns : List ℕ). m ∷ ns) (other_numbers_none ms n t.1)

pub other_clauses_none : (ms : List ℕ) (cs : List Clause) (n : ℕ) → contains n ms ≡ false → other_clauses n ms cs ≡ cs
other_clauses_none [] cs n h = refl
other_clauses_none (m ∷ ms) [] n h = refl
other_clauses_none (m ∷ ms) (c ∷ cs) n h =
    let t = or_both (n == m) (contains n ms) h in
    ap (λ (b : Bool). if b then cs else (c ∷ other_clauses n ms cs)) t.0 ∙ ap (λ (ds : List Clause). c ∷ ds) (other_clauses_none ms cs n t.1)

-- ---- what stays so

pub ascends-push : (ms : List ℕ) (n : ℕ) → ascends ms ≡ true → all_below n ms ≡ true → ascends (ms ++ n ∷ []) ≡ true
ascends-push [] n h below = refl
ascends-push (m ∷ ms) n h below = from m ms h below
  where
    from : (m : ℕ) (ms : List ℕ) → ascend_from m ms ≡ true → (nat_lt m n && all_below n ms) ≡ true → ascend_from m (ms ++ n ∷ []) ≡ true
    from m [] h below = both_tests (nat_lt m n) true (two_tests (nat_lt m n) true below).0 refl
    from m (k ∷ ks) h below =
        let t = two_tests (nat_lt m k) (ascend_from k ks) h in
        both_tests (nat_lt m k) (ascend_from k (ks ++ n ∷ [])) t.0 (from k ks t.1 (two_tests (nat_lt m n) (all_below n (k ∷ ks)) below).1)

pub below_next : (ms : List ℕ) (n : ℕ) → all_below n ms ≡ true → all_below (n + 1) ms ≡ true
below_next [] n h = refl
below_next (m ∷ ms) n h =
    let t = two_tests (nat_lt m n) (all_below n ms) h in
    both_tests (nat_lt m (n + 1)) (all_below (n + 1) ms) (more m n t.0) (below_next ms n t.1)
  where
    more : (m n : ℕ) → nat_lt m n ≡ true → nat_lt m (n + 1) ≡ true
    more m n h = grind (arith, nat_tests)

pub below-push : (ms : List ℕ) (n : ℕ) → all_below n ms ≡ true → all_below (n + 1) (ms ++ n ∷ []) ≡ true
below-push [] n h = last n
  where
    last : (n : ℕ) → (nat_lt n (n + 1) && true) ≡ true
    last n = both_tests (nat_lt n (n + 1)) true (test_of n (n + 1) (omega arith)) refl
below-push (m ∷ ms) n h =
    let t = two_tests (nat_lt m n) (all_below n ms) h in
    both_tests (nat_lt m (n + 1)) (all_below (n + 1) (ms ++ n ∷ [])) (more m n t.0) (below-push ms n t.1)
  where
    more : (m n : ℕ) → nat_lt m n ≡ true → nat_lt m (n + 1) ≡ true
    more m n h = grind (arith, nat_tests)

ascend_from-others : (a n : ℕ) (ms : List ℕ) → ascend_from a ms ≡ true → ascend_from a (other_numbers n ms) ≡ true
ascend_from-others a n [] h = refl
ascend_from-others a n (m ∷ ms) h = by_test (ascend_from-others m n ms t.1) (n == m)
  where
    t : (nat_lt a m ≡ true) × (ascend_from m ms ≡ true)
    t = two_tests (nat_lt a m) (ascend_from m ms) h

    by_test : ascend_from m (other_numbers n ms) ≡ true → (b : Bool) → ascend_from a (if b then ms else (m ∷ other_numbers n ms)) ≡ true
    by_test rest true = ascend_weaker a m ms (lt_of a m t.0) t.1
    by_test rest false = both_tests (nat_lt a m) (ascend_from m (other_numbers n ms)) t.0 rest

pub ascends-others : (n : ℕ) (ms : List ℕ) → ascends ms ≡ true → ascends (other_numbers n ms) ≡ true
ascends-others n [] h = refl
ascends-others n (m ∷ ms) h = by_test (n == m)
  where
    by_test : (b : Bool) → ascends (if b then ms else (m ∷ other_numbers n ms)) ≡ true
    by_test true = ascends_rest m ms h
    by_test false = ascend_from-others m n ms h

pub below-others : (n next : ℕ) (ms : List ℕ) → all_below next ms ≡ true → all_below next (other_numbers n ms) ≡ true
below-others n next [] h = refl
below-others n next (m ∷ ms) h = by_test (below-others n next ms t.1) (n == m)
  where
    t : (nat_lt m next ≡ true) × (all_below next ms ≡ true)
    t = two_tests (nat_lt m next) (all_below next ms) h

    by_test : all_below next (other_numbers n ms) ≡ true → (b : Bool) → all_below next (if b then ms else (m ∷ other_numbers n ms)) ≡ true
    by_test rest true = t.1
    by_test rest false = both_tests (nat_lt m next) (all_below next (other_numbers n ms)) t.0 rest

same-others : (n : ℕ) (ms : List ℕ) (cs : List Clause) → length ms ≡ length cs → length (other_numbers n ms) ≡ length (other_clauses n ms cs)
same-others n [] cs h = h
same-others n (m ∷ ms) [] h = absurd (omega arith)
same-others n (m ∷ ms) (c ∷ cs) h = by_test (same-others n ms cs (omega arith)) (n == m)
  where
    by_test : length (other_numbers n ms) ≡ length (other_clauses n ms cs) → (b : Bool) → length (if b then ms else (m ∷ other_numbers n ms)) ≡ length (if b then cs else (c ∷ other_clauses n ms cs))
    by_test rest true = omega arith
    by_test rest false = ap suc rest

pub kept_more : (next : ℕ) (ms : List ℕ) (cs : List Clause) (c : Clause) → IsKept next ms cs → IsKept (next + 1) (ms ++ next ∷ []) (cs ++ c ∷ [])
kept_more next ms cs c k = record {
  ascending = ascends-push ms next k.ascending k.below;
  below = below-push ms next k.below;
  same = length-append ms (next ∷ []) ∙ ap (λ (n : ℕ). n + 1) k.same ∙ sym (length-append cs (c ∷ []));
}

pub kept_less : (next n : ℕ) (ms : List ℕ) (cs : List Clause) → IsKept next ms cs → IsKept next (other_numbers n ms) (other_clauses n ms cs)
kept_less next n ms cs k = record {
  ascending = ascends-others n ms k.ascending;
  below = below-others n next ms k.below;
  same = same-others n ms cs k.same;
}

-- ---- for the calls of a store of clauses

pub place_none : (ms : List ℕ) (n i : ℕ) (r : Result ℕ ℕ) → IsBinarySearchResult (λ y. nat_cmp y n) ms r → ascends ms ≡ true → r ≡ Err i → contains n ms ≡ false
place_none ms n i r search h e =
    let s = searched ms n (Err i) (subst (IsBinarySearchResult (λ y. nat_cmp y n) ms) e search) (rises ms h) in
    unfound ms n i s.1 s.2

pub found_named : (ms lent : List ℕ) (cs : List Clause) (i n : ℕ) → lent ≡ ms → ascends ms ≡ true → (i < length lent) × (get_or lent i 0 ≡ n) → slice_get cs i ≡ named ms cs n
found_named ms lent cs i n e h p =
    let q : (i < length ms) × (get_or ms i 0 ≡ n) = subst (λ (ns : List ℕ). (i < length ns) × (get_or ns i 0 ≡ n)) e p in
    sym (named_at ms cs i h q.0) ∙ ap (named ms cs) q.1

pub found_contained : (ms lent : List ℕ) (i n : ℕ) → lent ≡ ms → (i < length lent) × (get_or lent i 0 ≡ n) → true ≡ contains n ms
found_contained ms lent i n e p =
    let q : (i < length ms) × (get_or ms i 0 ≡ n) = subst (λ (ns : List ℕ). (i < length ns) × (get_or ns i 0 ≡ n)) e p in
    sym (contains_at ms i q.0) ∙ ap (λ (m : ℕ). contains m ms) q.1

pub kept_more_at : (next after : ℕ) (ms ns : List ℕ) (cs ds : List Clause) (c : Clause) → after ≡ next + 1 → ns ≡ ms ++ next ∷ [] → ds ≡ cs ++ c ∷ [] → IsKept next ms cs → IsKept after ns ds
kept_more_at next after ms ns cs ds c e f g k = rw (e, f, g) (kept_more next ms cs c k)

-- what is left without a number
pub record IsWithout (n : ℕ) (ms : List ℕ) (cs : List Clause) (ns : List ℕ) (ds : List Clause) : Type 0 where
  pub numbers : ns ≡ other_numbers n ms
  pub clauses : ds ≡ other_clauses n ms cs

pub without_found : (next : ℕ) (ms lent ns : List ℕ) (cs ds : List Clause) (i n : ℕ) → lent ≡ ms → IsKept next ms cs → (i < length lent) × (get_or lent i 0 ≡ n) → ns ≡ remove ms i → ds ≡ remove cs i → IsWithout n ms cs ns ds
without_found next ms lent ns cs ds i n e k p f g =
    let q : (i < length ms) × (get_or ms i 0 ≡ n) = subst (λ (ns : List ℕ). (i < length ns) × (get_or ns i 0 ≡ n)) e p in
    record {
      numbers = f ∙ sym (other_numbers_at ms i k.ascending q.0) ∙ ap (λ (m : ℕ). other_numbers m ms) q.1;
      clauses = g ∙ sym (other_clauses_at ms cs i k.ascending q.0 k.same) ∙ ap (λ (m : ℕ). other_clauses m ms cs) q.1;
    }

pub without_none : (ms lent ns : List ℕ) (cs ds : List Clause) (n : ℕ) → lent ≡ ms → contains n lent ≡ false → ns ≡ ms → ds ≡ cs → IsWithout n ms cs ns ds
without_none ms lent ns cs ds n e h f g =
    let q : contains n ms ≡ false = subst (λ (ns : List ℕ). contains n ns ≡ false) e h in
    record { numbers = f ∙ sym (other_numbers_none ms n q); clauses = g ∙ sym (other_clauses_none ms cs n q) }

pub without_kept : (next n : ℕ) (ms ns : List ℕ) (cs ds : List Clause) → IsKept next ms cs → IsWithout n ms cs ns ds → IsKept next ns ds
without_kept next n ms ns cs ds k w = rw (w.numbers, w.clauses) (kept_less next n ms cs k)

pub without_is : (next n : ℕ) (ms ns : List ℕ) (cs ds : List Clause) (old : Kept) → record { next = next; numbers = ms; clauses = cs } ≡ old → IsWithout n ms cs ns ds → record { next = next; numbers = ns; clauses = ds } ≡ kept_without old n
without_is next n ms ns cs ds old e w = at_fields (w.numbers) (w.clauses) ∙ ap (λ (k : Kept). kept_without k n) e
  where
    at_fields : ns ≡ other_numbers n ms → ds ≡ other_clauses n ms cs → record { next = next; numbers = ns; clauses = ds } ≡ kept_without (record { next = next; numbers = ms; clauses = cs }) n
    at_fields p q = rw (p, q) refl
