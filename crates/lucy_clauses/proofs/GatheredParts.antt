-- Gathered parts ascend, have no zero factor and stay within the limit.
use Rattle.std.proofs.Common.{◌≡◌, ℕ, zero, suc, ◌<◌, ◌≤◌, length, get_or, nat_lt, nat_le, min, ◌+◌, ◌-◌, ◌^◌, ◌+ℤ◌, unsigned_abs, ◌==◌, eqb-true, Bool, true, false, not, if◌then◌else◌, ℤ, List, [], ◌∷◌, ap, sym, ◌∙◌, refl, subst, arith}
use Rattle.std.proofs.lemmas.Bool.Decides.{nat_tests}
use Rattle.std.proofs.lemmas.Int.{ints}
use Rattle.lucy_clauses.specs.declared.parts.Part.{Part}
use Rattle.lucy_clauses.specs.Parts.{is_zero, sum_part, grown, put, put_any, gathered_onto, gathered, stays_within, total_size, all_within, is_within, above, ascends, none_zero}
use Rattle.lucy_clauses.specs.Normal.{IsGathered}
use Rattle.lucy_clauses.proofs.Mapping.{two_tests, both_tests, front_mapped, length-front_mapped, get-front_mapped}

nonzero_test : (b : Bool) → b ≡ false → not b ≡ true
nonzero_test false h = refl
nonzero_test true h = absurd (cc)

pub above_further : (v w : ℕ) (ps : List Part) → nat_lt v w ≡ true → above w ps ≡ true → above v ps ≡ true
above_further v w [] h k = refl
above_further v w (p ∷ ps) h k =
    let t = two_tests (nat_lt w p.variable) (above w ps) k in
    both_tests (nat_lt v p.variable) (above v ps) (between v w p.variable h t.0) (above_further v w ps h t.1)
  where
    between : (a b c : ℕ) → nat_lt a b ≡ true → nat_lt b c ≡ true → nat_lt a c ≡ true
    between a b c p q = grind (arith, nat_tests)

-- a part that is kept, or not
above-grown : (v : ℕ) (p : Part) (ps : List Part) → nat_lt v p.variable ≡ true → above v ps ≡ true → above v (grown p ps) ≡ true
above-grown v p ps h k = by_test (is_zero p)
  where
    by_test : (b : Bool) → above v (if b then ps else (p ∷ ps)) ≡ true
    by_test true = k
    by_test false = both_tests (nat_lt v p.variable) (above v ps) h k

ascends-grown : (p : Part) (ps : List Part) → above p.variable ps ≡ true → ascends ps ≡ true → ascends (grown p ps) ≡ true
ascends-grown p ps h k = by_test (is_zero p)
  where
    by_test : (b : Bool) → ascends (if b then ps else (p ∷ ps)) ≡ true
    by_test true = k
    by_test false = both_tests (above p.variable ps) (ascends ps) h k

none_zero-grown : (p : Part) (ps : List Part) → none_zero ps ≡ true → none_zero (grown p ps) ≡ true
none_zero-grown p ps k = by_test (is_zero p) refl
  where
    by_test : (b : Bool) → is_zero p ≡ b → none_zero (if b then ps else (p ∷ ps)) ≡ true
    by_test true e = k
    by_test false e = both_tests (not (is_zero p)) (none_zero ps) (nonzero_test (is_zero p) e) k

above-put : (v : ℕ) (q : Part) (ps : List Part) → nat_lt v q.variable ≡ true → above v ps ≡ true → above v (put q ps) ≡ true
above-put v q [] h k = both_tests (nat_lt v q.variable) true h refl
above-put v q (p ∷ ps) h k =
    let t = two_tests (nat_lt v p.variable) (above v ps) k in
    by_tests (nat_lt q.variable p.variable) (q.variable == p.variable) t.0 (above-grown v (sum_part p q) ps h t.1) (above-put v q ps h t.1)
  where
    by_tests : (b c : Bool) → nat_lt v p.variable ≡ true → above v (grown (sum_part p q) ps) ≡ true → above v (put q ps) ≡ true → above v (if b then (q ∷ p ∷ ps) else (if c then grown (sum_part p q) ps else (p ∷ put q ps))) ≡ true
    by_tests true c first met more = both_tests (nat_lt v q.variable) (above v (p ∷ ps)) h k
    by_tests false true first met more = met
    by_tests false false first met more = both_tests (nat_lt v p.variable) (above v (put q ps)) first more

ascends-put : (q : Part) (ps : List Part) → ascends ps ≡ true → ascends (put q ps) ≡ true
ascends-put q [] k = refl
ascends-put q (p ∷ ps) k =
    let t = two_tests (above p.variable ps) (ascends ps) k in
    by_tests (nat_lt q.variable p.variable) (q.variable == p.variable) refl refl t.0 t.1 (ascends-put q ps t.1)
  where
    greater : (a b : ℕ) → nat_lt a b ≡ false → (a == b) ≡ false → nat_lt b a ≡ true
    greater a b e f = grind (arith, nat_tests)

    by_tests : (b c : Bool) → nat_lt q.variable p.variable ≡ b → (q.variable == p.variable) ≡ c → above p.variable ps ≡ true → ascends ps ≡ true → ascends (put q ps) ≡ true → ascends (if b then (q ∷ p ∷ ps) else (if c then grown (sum_part p q) ps else (p ∷ put q ps))) ≡ true
    by_tests true c e f first rest more =
        both_tests (above q.variable (p ∷ ps)) (ascends (p ∷ ps)) (both_tests (nat_lt q.variable p.variable) (above q.variable ps) e (above_further q.variable p.variable ps e first)) (both_tests (above p.variable ps) (ascends ps) first rest)
    by_tests false true e f first rest more =
        ascends-grown (sum_part p q) ps (subst (λ (v : ℕ). above v ps ≡ true) (sym (eqb-true q.variable p.variable f)) first) rest
    by_tests false false e f first rest more =
        both_tests (above p.variable (put q ps)) (ascends (put q ps)) (above-put p.variable q ps (greater q.variable p.variable e f) first) more

none_zero-put : (q : Part) (ps : List Part) → is_zero q ≡ false → none_zero ps ≡ true → none_zero (put q ps) ≡ true
none_zero-put q [] h k = both_tests (not (is_zero q)) true (nonzero_test (is_zero q) h) refl
none_zero-put q (p ∷ ps) h k =
    let t = two_tests (not (is_zero p)) (none_zero ps) k in
    by_tests (nat_lt q.variable p.variable) (q.variable == p.variable) t.0 (none_zero-grown (sum_part p q) ps t.1) (none_zero-put q ps h t.1)
  where
    by_tests : (b c : Bool) → not (is_zero p) ≡ true → none_zero (grown (sum_part p q) ps) ≡ true → none_zero (put q ps) ≡ true → none_zero (if b then (q ∷ p ∷ ps) else (if c then grown (sum_part p q) ps else (p ∷ put q ps))) ≡ true
    by_tests true c first met more = both_tests (not (is_zero q)) (none_zero (p ∷ ps)) (nonzero_test (is_zero q) h) k
    by_tests false true first met more = met
    by_tests false false first met more = both_tests (not (is_zero p)) (none_zero (put q ps)) first more

pub is_gathered-put_any : (q : Part) (ps : List Part) → IsGathered ps → all_within (put_any q ps) ≡ true → IsGathered (put_any q ps)
is_gathered-put_any q ps g w = by_test (is_zero q) refl w
  where
    by_test : (b : Bool) → is_zero q ≡ b → all_within (if b then ps else put q ps) ≡ true → IsGathered (if b then ps else put q ps)
    by_test true e w = g
    by_test false e w = record { ascending = ascends-put q ps g.ascending; nonzero = none_zero-put q ps e g.nonzero; within = w }

is_gathered_onto : (ps sum : List Part) → IsGathered sum → stays_within sum ps ≡ true → IsGathered (gathered_onto sum ps)
is_gathered_onto [] sum g h = g
is_gathered_onto (p ∷ ps) sum g h =
    let t = two_tests (all_within (put_any p sum)) (stays_within (put_any p sum) ps) h in
    is_gathered_onto ps (put_any p sum) (is_gathered-put_any p sum g t.0) t.1

pub is_gathered : (ps : List Part) → stays_within [] ps ≡ true → IsGathered (gathered ps)
is_gathered ps h = is_gathered_onto ps [] (record { ascending = refl; nonzero = refl; within = refl }) h

pub grown-kept : (p : Part) (ps : List Part) → is_zero p ≡ false → grown p ps ≡ p ∷ ps
grown-kept p ps h = ap (λ (b : Bool). if b then ps else (p ∷ ps)) h

within-at : (ps : List Part) (i : ℕ) (d : Part) → i < length ps → all_within ps ≡ true → is_within ((get_or ps i d).by) ≡ true
within-at [] i d lt h = absurd (omega arith)
within-at (p ∷ ps) zero d lt h = (two_tests (is_within p.by) (all_within ps) h).0
within-at (p ∷ ps) (suc i) d lt h = within-at ps i d (omega arith) (two_tests (is_within p.by) (all_within ps) h).1

-- an element behind the front that a loop has mapped is within the limit
pub within_front : (f : Part → Part) (i : ℕ) (old now : List Part) (x : Part) → i < length now → now ≡ front_mapped f i old → get_or now i x ≡ x → all_within old ≡ true → is_within x.by ≡ true
within_front f i old now x lt is at h =
    let size = ap length is ∙ length-front_mapped f i old in
    let found = sym (get-front_mapped f i old x) ∙ ap (λ (zs : List Part). get_or zs i x) (sym is) ∙ at in
    subst (λ (p : Part). is_within p.by ≡ true) found (within-at old i x (omega (arith, size)) h)

-- ---- parts that are small together

size-grown : (p : Part) (ps : List Part) → total_size (grown p ps) ≤ unsigned_abs p.by + total_size ps
size-grown p ps = by_test (is_zero p)
  where
    by_test : (b : Bool) → total_size (if b then ps else (p ∷ ps)) ≤ unsigned_abs p.by + total_size ps
    by_test true = omega arith
    by_test false = omega arith

size-sum : (a b : ℤ) → unsigned_abs (a +ℤ b) ≤ unsigned_abs a + unsigned_abs b
size-sum a b = grind (arith, ints)

size-put : (q : Part) (ps : List Part) → total_size (put q ps) ≤ unsigned_abs q.by + total_size ps
size-put q [] = omega arith
size-put q (p ∷ ps) =
    by_tests (nat_lt q.variable p.variable) (q.variable == p.variable) (size-grown (sum_part p q) ps) (size-put q ps) (size-sum p.by q.by)
  where
    by_tests : (b c : Bool) → total_size (grown (sum_part p q) ps) ≤ unsigned_abs (p.by +ℤ q.by) + total_size ps → total_size (put q ps) ≤ unsigned_abs q.by + total_size ps → unsigned_abs (p.by +ℤ q.by) ≤ unsigned_abs p.by + unsigned_abs q.by → total_size (if b then (q ∷ p ∷ ps) else (if c then grown (sum_part p q) ps else (p ∷ put q ps))) ≤ unsigned_abs q.by + (unsigned_abs p.by + total_size ps)
    by_tests true c met more sum = omega arith
    by_tests false true met more sum = omega (arith, met, sum)
    by_tests false false met more sum = omega (arith, more)

-- a part more
pub size-put_any : (q : Part) (ps : List Part) → total_size (put_any q ps) ≤ unsigned_abs q.by + total_size ps
size-put_any q ps = by_test (is_zero q) (size-put q ps)
  where
    by_test : (b : Bool) → total_size (put q ps) ≤ unsigned_abs q.by + total_size ps → total_size (if b then ps else put q ps) ≤ unsigned_abs q.by + total_size ps
    by_test true h = omega arith
    by_test false h = h

small_within : (ps : List Part) → total_size ps ≤ 2 ^ 126 → all_within ps ≡ true
small_within [] h = refl
small_within (p ∷ ps) h = both_tests (is_within p.by) (all_within ps) (at_most (unsigned_abs p.by) (omega (arith, h))) (small_within ps (omega (arith, h)))
  where
    at_most : (n : ℕ) → n ≤ 2 ^ 126 → nat_le n (2 ^ 126) ≡ true
    at_most n h = grind (arith, nat_tests)

small_onto : (sum ps : List Part) → total_size sum + total_size ps ≤ 2 ^ 126 → stays_within sum ps ≡ true
small_onto sum [] h = refl
small_onto sum (p ∷ ps) h =
    let grows = size-put_any p sum in
    both_tests (all_within (put_any p sum)) (stays_within (put_any p sum) ps)
    (small_within (put_any p sum) (omega (arith, h, grows)))
    (small_onto (put_any p sum) ps (omega (arith, h, grows)))

pub small_stays : (ps : List Part) → total_size ps ≤ 2 ^ 126 → stays_within [] ps ≡ true
small_stays ps h = small_onto [] ps (omega (arith, h))

pub counted : (s t r : ℕ) → min s (2 ^ 128 - 1) ≡ min (t + r) (2 ^ 128 - 1) → r ≡ 0 → nat_le t (2 ^ 126) ≡ true → s ≤ 2 ^ 126
counted s t r e none h = small s t (e ∙ ap (λ (k : ℕ). min (t + k) (2 ^ 128 - 1)) none) (le_test t h)
  where
    le_test : (t : ℕ) → nat_le t (2 ^ 126) ≡ true → t ≤ 2 ^ 126
    le_test t h = grind (arith, nat_tests)

    small : (s t : ℕ) → min s (2 ^ 128 - 1) ≡ min (t + 0) (2 ^ 128 - 1) → t ≤ 2 ^ 126 → s ≤ 2 ^ 126
    small s t e h = omega (arith, e, h)
