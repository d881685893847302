-- Parts put to the front and the rest of ascending parts.
use Rattle.std.proofs.Common.{◌≡◌, ℕ, zero, suc, ◌+◌, ◌-◌, ◌<◌, ◌≤◌, ◌==◌, ◌&&◌, nat_lt, nat_le, Bool, true, false, if◌then◌else◌, Some, None, ℤ, ◌*ℤ◌, List, [], ◌∷◌, ◌++◌, take, drop, get_or, length, add-one, pos, ap, sym, ◌∙◌, refl, subst, arith, append_assoc}
use Rattle.std.specs.List.{list_all}
use Rattle.std.proofs.lemmas.Bool.Decides.{nat_tests, Decides-int_eq}
use Rattle.std.proofs.lemmas.List.{append-nil, take_all, length-drop}
use Rattle.lucy_clauses.specs.declared.parts.Part.{Part}
use Rattle.lucy_clauses.specs.Parts.{is_zero, is_within, sum_part, grown, put, put_any, above, ascends, all_within}
use Rattle.lucy_clauses.specs.Normal.{IsGathered}
use Rattle.lucy_clauses.specs.Lines.{multiple, put_multiples}
use Rattle.lucy_clauses.specs.Adding.{all_below, starts_at, first_of, Keeps, Places}
use Rattle.lucy_clauses.proofs.Mapping.{two_tests, both_tests}
use Rattle.lucy_clauses.proofs.GatheredParts.{is_gathered-put_any}

-- what is left from a place on
pub take_rest : {A : Type 0} (n : ℕ) (xs : List A) → take (length xs - n) (drop n xs) ≡ drop n xs
take_rest n xs = take_all (length xs - n) (drop n xs) (omega (arith, length-drop n xs))

-- ---- values where a test allows them

pub none_is : {A : Type 0} (b : Bool) (x : A) → None ≡ (if b then Some x else None) → b ≡ false
none_is true x e = absurd (cc)
none_is false x e = refl

pub some_is : {A : Type 0} (b : Bool) (x y : A) → Some y ≡ (if b then Some x else None) → (b ≡ true) × (x ≡ y)
some_is true x y e = (refl, cc)
some_is false x y e = absurd (cc)

-- ---- tests of all

all-append : {A : Type 0} (t : A → Bool) (xs ys : List A) → list_all t (xs ++ ys) ≡ (list_all t xs && list_all t ys)
all-append t [] ys = refl
all-append t (x ∷ xs) ys = by_test (t x) (all-append t xs ys)
  where
    by_test : (b : Bool) → list_all t (xs ++ ys) ≡ (list_all t xs && list_all t ys) → (b && list_all t (xs ++ ys)) ≡ ((b && list_all t xs) && list_all t ys)
    by_test true e = e
    by_test false e = refl

both_append : {A : Type 0} (t : A → Bool) (xs ys : List A) → list_all t xs ≡ true → list_all t ys ≡ true → list_all t (xs ++ ys) ≡ true
both_append t xs ys h k = all-append t xs ys ∙ both_tests (list_all t xs) (list_all t ys) h k

two_append : {A : Type 0} (t : A → Bool) (xs ys : List A) → list_all t (xs ++ ys) ≡ true → (list_all t xs ≡ true) × (list_all t ys ≡ true)
two_append t xs ys h = two_tests (list_all t xs) (list_all t ys) (sym (all-append t xs ys) ∙ h)

pub below_more : (v w : ℕ) (ps : List Part) → v ≤ w → all_below v ps ≡ true → all_below w ps ≡ true
below_more v w [] le h = refl
below_more v w (p ∷ ps) le h =
    let t = two_tests (nat_lt p.variable v) (all_below v ps) h in
    both_tests (nat_lt p.variable w) (all_below w ps) (less p.variable t.0) (below_more v w ps le t.1)
  where
    less : (n : ℕ) → nat_lt n v ≡ true → nat_lt n w ≡ true
    less n e = grind (arith, nat_tests)

less_test : (m n : ℕ) → m < n → nat_lt m n ≡ true
less_test m n h = grind (arith, nat_tests, h)

-- ---- a part put behind lower ones

put_behind : (q : Part) (front rest : List Part) → all_below q.variable front ≡ true → put q (front ++ rest) ≡ front ++ put q rest
put_behind q [] rest h = refl
put_behind q (p ∷ ps) rest h =
    let t = two_tests (nat_lt p.variable q.variable) (all_below q.variable ps) h in
    let passed = passes p.variable q.variable t.0 in
    ap (λ (b : Bool). if b then (q ∷ p ∷ (ps ++ rest)) else (if q.variable == p.variable then grown (sum_part p q) (ps ++ rest) else (p ∷ put q (ps ++ rest)))) passed.0
    ∙ ap (λ (b : Bool). if b then grown (sum_part p q) (ps ++ rest) else (p ∷ put q (ps ++ rest))) passed.1
    ∙ ap (λ (rs : List Part). p ∷ rs) (put_behind q ps rest t.1)
  where
    passes : (m n : ℕ) → nat_lt m n ≡ true → (nat_lt n m ≡ false) × ((n == m) ≡ false)
    passes m n e = (grind (arith, nat_tests), grind (arith, nat_tests))

-- ascending parts are below a variable where the last is
pub last_below : (v n : ℕ) (ps : List Part) (d : Part) → length ps ≡ suc n → ascends ps ≡ true → nat_lt ((get_or ps n d).variable) v ≡ all_below v ps
last_below v n [] d size h = absurd (omega (arith, size))
last_below v zero (p ∷ []) d size h = by_test (nat_lt p.variable v)
  where
    by_test : (b : Bool) → b ≡ (b && true)
    by_test true = refl
    by_test false = refl
last_below v (suc n) (p ∷ []) d size h = absurd (omega (arith, size))
last_below v zero (p ∷ q ∷ ps) d size h = absurd (omega (arith, size))
last_below v (suc n) (p ∷ q ∷ ps) d size h =
    let t = two_tests (above p.variable (q ∷ ps)) (ascends (q ∷ ps)) h in
    let later = last_below v n (q ∷ ps) d (omega (arith, size)) t.1 in
    later ∙ by_test (all_below v (q ∷ ps)) (λ e. lower (q ∷ ps) (omega arith) t.0 e)
  where
    between : (a b c : ℕ) → nat_lt a b ≡ true → nat_lt b c ≡ true → nat_lt a c ≡ true
    between a b c e f = grind (arith, nat_tests)

    lower : (qs : List Part) → 0 < length qs → above p.variable qs ≡ true → all_below v qs ≡ true → nat_lt p.variable v ≡ true
    lower [] some k e = absurd (omega arith)
    lower (r ∷ rs) some k e = between p.variable r.variable v (two_tests (nat_lt p.variable r.variable) (above p.variable rs) k).0 (two_tests (nat_lt r.variable v) (all_below v rs) e).0

    by_test : (b : Bool) → (b ≡ true → nat_lt p.variable v ≡ true) → b ≡ (nat_lt p.variable v && b)
    by_test true f = sym (ap (λ (x : Bool). x && true) (f refl))
    by_test false f = none (nat_lt p.variable v)
      where
        none : (x : Bool) → false ≡ (x && false)
        none true = refl
        none false = refl

-- a part that is behind all
pub put_last : (q : Part) (ps : List Part) → all_below q.variable ps ≡ true → ps ++ q ∷ [] ≡ put q ps
put_last q ps h = sym (ap (put q) (sym (append-nil ps)) ∙ put_behind q ps [] h)

-- where the rest has no part of the variable
put_here : (q : Part) (rest : List Part) → starts_at q.variable rest ≡ true → first_of q.variable rest ≡ None → put q rest ≡ q ∷ rest
put_here q [] s h = refl
put_here q (p ∷ ps) s h = by_test (q.variable == p.variable) refl h
  where
    lower : (m n : ℕ) → nat_le m n ≡ true → (m == n) ≡ false → nat_lt m n ≡ true
    lower m n e f = grind (arith, nat_tests)

    by_test : (b : Bool) → (q.variable == p.variable) ≡ b → (if b then Some p else None) ≡ None → put q (p ∷ ps) ≡ q ∷ p ∷ ps
    by_test true e h = absurd (cc)
    by_test false e h = ap (λ (b : Bool). if b then (q ∷ p ∷ ps) else (if q.variable == p.variable then grown (sum_part p q) ps else (p ∷ put q ps))) (lower q.variable p.variable s e)

-- where it has one
pub record Meets (q r : Part) (rest tail : List Part) : Type 0 where
  pub rest_is : rest ≡ r ∷ tail
  pub put_is : put q rest ≡ grown (sum_part r q) tail

put_met : (q r : Part) (rest : List Part) → first_of q.variable rest ≡ Some r → Meets q r rest (drop 1 rest)
put_met q r [] h = absurd (cc)
put_met q r (p ∷ ps) h = by_test (q.variable == p.variable) refl h
  where
    equal : (m n : ℕ) → (m == n) ≡ true → nat_lt m n ≡ false
    equal m n e = grind (arith, nat_tests)

    by_test : (b : Bool) → (q.variable == p.variable) ≡ b → (if b then Some p else None) ≡ Some r → Meets q r (p ∷ ps) ps
    by_test false e h = absurd (cc)
    by_test true e h =
        let same : p ≡ r = cc in
        subst (λ (x : Part). Meets q x (p ∷ ps) ps) same (record {
          rest_is = refl;
          put_is =
              ap (λ (b : Bool). if b then (q ∷ p ∷ ps) else (if q.variable == p.variable then grown (sum_part p q) ps else (p ∷ put q ps))) (equal q.variable p.variable e)
              ∙ ap (λ (b : Bool). if b then grown (sum_part p q) ps else (p ∷ put q ps)) e;
        })

put_nonzero : (q : Part) (ps : List Part) → is_zero q ≡ false → put_any q ps ≡ put q ps
put_nonzero q ps h = ap (λ (b : Bool). if b then ps else put q ps) h

put_zero : (q : Part) (ps : List Part) → is_zero q ≡ true → put_any q ps ≡ ps
put_zero q ps h = ap (λ (b : Bool). if b then ps else put q ps) h

-- ---- one part of the sum

one_within : (p : Part) (ps : List Part) → is_within p.by ≡ true → all_within ps ≡ true → all_within (p ∷ ps) ≡ true
one_within p ps h k = both_tests (is_within p.by) (all_within ps) h k

own_below : (q : Part) → all_below (q.variable + 1) (q ∷ []) ≡ true
own_below q = both_tests (nat_lt q.variable (q.variable + 1)) true (less_test q.variable (q.variable + 1) (omega arith)) refl

drop_next : {A : Type 0} (n : ℕ) (xs : List A) → drop 1 (drop n xs) ≡ drop (n + 1) xs
drop_next zero xs = refl
drop_next (suc n) [] = ap (λ (k : ℕ). drop k []) (sym (add-one (suc n)))
drop_next (suc n) (x ∷ xs) = drop_next n xs ∙ ap (λ (k : ℕ). drop k (x ∷ xs)) (one_more n)
  where
    one_more : (n : ℕ) → suc (n + 1) ≡ suc n + 1
    one_more n = omega arith

-- a part of a variable that the rest does not have
pub placed_here : (q : Part) (parts old new : List Part) (place next : ℕ) → is_zero q ≡ false → is_within q.by ≡ true → IsGathered (old ++ drop place parts) → all_below q.variable old ≡ true →
    Keeps q.variable parts old new place next → first_of q.variable (drop next parts) ≡ None → Places q parts old (new ++ q ∷ []) place next
placed_here q parts old new place next nonzero fits gathered below kept none =
    let rest = drop next parts in
    let front = kept.below below in
    let put_is : put_any q (old ++ drop place parts) ≡ new ++ (q ∷ rest) =
    put_nonzero q (old ++ drop place parts) nonzero ∙ ap (put q) (sym kept.sum) ∙ put_behind q new rest front ∙ ap (λ (rs : List Part). new ++ rs) (put_here q rest kept.starts none) in
    let halves = two_append (λ (p : Part). is_within p.by) new rest (ap all_within kept.sum ∙ gathered.within) in
    record {
      sum = append_assoc new (q ∷ []) rest ∙ sym put_is;
      within = ap all_within put_is ∙ both_append (λ (p : Part). is_within p.by) new (q ∷ rest) halves.0 (one_within q rest fits halves.1);
      below = both_append (λ (p : Part). nat_lt p.variable (q.variable + 1)) new (q ∷ []) (below_more q.variable (q.variable + 1) new (omega arith) front) (own_below q);
      there = kept.there;
    }

joined_put : (q r : Part) (parts old new : List Part) (place next : ℕ) → is_zero q ≡ false → all_below q.variable old ≡ true →
    Keeps q.variable parts old new place next → first_of q.variable (drop next parts) ≡ Some r → put_any q (old ++ drop place parts) ≡ new ++ grown (sum_part r q) (drop (next + 1) parts)
joined_put q r parts old new place next nonzero below kept some =
    put_nonzero q (old ++ drop place parts) nonzero ∙ ap (put q) (sym kept.sum) ∙ put_behind q new (drop next parts) (kept.below below)
    ∙ ap (λ (rs : List Part). new ++ rs) ((put_met q r (drop next parts) some).put_is ∙ ap (grown (sum_part r q)) (drop_next next parts))

-- the parts before and behind one that is met
met_halves : (q r : Part) (parts old new : List Part) (place next : ℕ) → IsGathered (old ++ drop place parts) → Keeps q.variable parts old new place next → first_of q.variable (drop next parts) ≡ Some r →
    (all_within new ≡ true) × (all_within (drop (next + 1) parts) ≡ true)
met_halves q r parts old new place next gathered kept some =
    let halves = two_append (λ (p : Part). is_within p.by) new (drop next parts) (ap all_within kept.sum ∙ gathered.within) in
    let met = put_met q r (drop next parts) some in
    let tail = two_tests (is_within r.by) (all_within (drop 1 (drop next parts))) (ap all_within (sym met.rest_is) ∙ halves.1) in
    (halves.0, ap all_within (sym (drop_next next parts)) ∙ tail.1)

within_grown : (p : Part) (ps : List Part) → is_within p.by ≡ true → all_within ps ≡ true → all_within (grown p ps) ≡ true
within_grown p ps h k = by_test (is_zero p)
  where
    by_test : (b : Bool) → all_within (if b then ps else (p ∷ ps)) ≡ true
    by_test true = k
    by_test false = one_within p ps h k

-- a factor past the limit is not 0
wide_grown : (p : Part) (ps : List Part) → is_within p.by ≡ false → all_within (grown p ps) ≡ false
wide_grown p ps h = by_test (is_zero p) refl
  where
    zero_fits : (p : Part) → is_zero p ≡ true → is_within p.by ≡ true
    zero_fits p e = ap is_within ((Decides-int_eq p.by (pos 0)).0 e)

    apart : {b : Bool} → b ≡ false → b ≡ true → ⊥
    apart e f = cc

    by_test : (b : Bool) → is_zero p ≡ b → all_within (if b then ps else (p ∷ ps)) ≡ false
    by_test true e = absurd (apart h (zero_fits p e))
    by_test false e = ap (λ (b : Bool). b && all_within ps) h

grown_append : (p : Part) (xs ys : List Part) → (xs ++ grown p []) ++ ys ≡ xs ++ grown p ys
grown_append p xs ys = by_test (is_zero p)
  where
    by_test : (b : Bool) → (xs ++ (if b then [] else (p ∷ []))) ++ ys ≡ xs ++ (if b then ys else (p ∷ ys))
    by_test true = ap (λ (zs : List Part). zs ++ ys) (append-nil xs)
    by_test false = append_assoc xs (p ∷ []) ys

below_grown : (p : Part) → all_below (p.variable + 1) (grown p []) ≡ true
below_grown p = by_test (is_zero p)
  where
    by_test : (b : Bool) → all_below (p.variable + 1) (if b then [] else (p ∷ [])) ≡ true
    by_test true = refl
    by_test false = own_below p

-- a part of a variable that the rest has
pub placed_met : (q r : Part) (parts old new : List Part) (place next : ℕ) → is_zero q ≡ false → IsGathered (old ++ drop place parts) → all_below q.variable old ≡ true →
    Keeps q.variable parts old new place next → first_of q.variable (drop next parts) ≡ Some r → is_within ((sum_part r q).by) ≡ true → Places q parts old (new ++ grown (sum_part r q) []) place (next + 1)
placed_met q r parts old new place next nonzero gathered below kept some fits =
    let rest = drop (next + 1) parts in
    let put_is = joined_put q r parts old new place next nonzero below kept some in
    let halves = met_halves q r parts old new place next gathered kept some in
    record {
      sum = grown_append (sum_part r q) new rest ∙ sym put_is;
      within = ap all_within put_is ∙ both_append (λ (p : Part). is_within p.by) new (grown (sum_part r q) rest) halves.0 (within_grown (sum_part r q) rest fits halves.1);
      below = both_append (λ (p : Part). nat_lt p.variable (q.variable + 1)) new (grown (sum_part r q) []) (below_more q.variable (q.variable + 1) new (omega arith) (kept.below below)) (below_grown (sum_part r q));
      there = further next parts r some;
    }
  where
    further : (n : ℕ) (ps : List Part) (r : Part) → first_of q.variable (drop n ps) ≡ Some r → n + 1 ≤ length ps
    further zero [] r h = absurd (cc)
    further (suc n) [] r h = absurd (cc)
    further zero (p ∷ ps) r h = omega arith
    further (suc n) (p ∷ ps) r h = let e = further n ps r h in omega (arith, e)

pub placed_wide : (q r : Part) (parts old new : List Part) (place next : ℕ) → is_zero q ≡ false → IsGathered (old ++ drop place parts) → all_below q.variable old ≡ true →
    Keeps q.variable parts old new place next → first_of q.variable (drop next parts) ≡ Some r → is_within ((sum_part r q).by) ≡ false → all_within (put_any q (old ++ drop place parts)) ≡ false
placed_wide q r parts old new place next nonzero gathered below kept some wide =
    ap all_within (joined_put q r parts old new place next nonzero below kept some)
    ∙ all-append (λ (p : Part). is_within p.by) new (grown (sum_part r q) (drop (next + 1) parts))
    ∙ ap (λ (b : Bool). all_within new && b) (wide_grown (sum_part r q) (drop (next + 1) parts) wide)
    ∙ none (all_within new)
  where
    none : (b : Bool) → (b && false) ≡ false
    none true = refl
    none false = refl

-- a part of 0 changes nothing
pub placed_zero : (q : Part) (parts old : List Part) (place : ℕ) → is_zero q ≡ true → IsGathered (old ++ drop place parts) → all_below q.variable old ≡ true → place ≤ length parts → Places q parts old old place place
placed_zero q parts old place zero_is gathered below there = record {
  sum = sym (put_zero q (old ++ drop place parts) zero_is);
  within = ap all_within (put_zero q (old ++ drop place parts) zero_is) ∙ gathered.within;
  below = below_more q.variable (q.variable + 1) old (omega arith) below;
  there = there;
}

-- ---- the whole sum

-- the finished parts are below the next one
abbrev pub below_next : List Part → List Part → Bool
below_next sum [] = true
below_next sum (q ∷ qs) = all_below q.variable sum

-- so far
pub record Merging (m : ℤ) (more parts left sum : List Part) (place : ℕ) : Type 0 where
  pub same : put_multiples m left (sum ++ drop place parts) ≡ put_multiples m more parts
  pub gathered : IsGathered (sum ++ drop place parts)
  pub ascending : ascends left ≡ true
  pub below : below_next sum left ≡ true
  pub there : place ≤ length parts

pub merging_first : (m : ℤ) (more parts : List Part) → ascends more ≡ true → IsGathered parts → Merging m more parts more [] 0
merging_first m more parts h g = record { same = refl; gathered = g; ascending = h; below = none more; there = omega arith }
  where
    none : (qs : List Part) → below_next [] qs ≡ true
    none [] = refl
    none (q ∷ qs) = refl

next_below : (q : Part) (qs sum : List Part) → above q.variable qs ≡ true → all_below (q.variable + 1) sum ≡ true → below_next sum qs ≡ true
next_below q [] sum h k = refl
next_below q (r ∷ rs) sum h k = below_more (q.variable + 1) r.variable sum (higher q.variable r.variable (two_tests (nat_lt q.variable r.variable) (above q.variable rs) h).0) k
  where
    higher : (v w : ℕ) → nat_lt v w ≡ true → v + 1 ≤ w
    higher v w e = grind (arith, nat_tests)

pub merging_step : (m : ℤ) (q : Part) (more parts left old new : List Part) (place next : ℕ) → Merging m more parts (q ∷ left) old place → is_within (m *ℤ q.by) ≡ true → Places (multiple m q) parts old new place next → Merging m more parts left new next
merging_step m q more parts left old new place next g fits placed =
    let t = two_tests (above q.variable left) (ascends left) g.ascending in
    let taken = both_tests (is_within (m *ℤ q.by)) (all_within (put_any (multiple m q) (old ++ drop place parts))) fits placed.within in
    let turn = ap (λ (b : Bool). if b then put_multiples m left (put_any (multiple m q) (old ++ drop place parts)) else None) taken in
    record {
      same = ap (put_multiples m left) placed.sum ∙ sym turn ∙ g.same;
      gathered = subst IsGathered (sym placed.sum) (is_gathered-put_any (multiple m q) (old ++ drop place parts) g.gathered placed.within);
      ascending = t.1;
      below = next_below q left new t.0 placed.below;
      there = placed.there;
    }

pub merging_wide : (m : ℤ) (q : Part) (more parts left old : List Part) (place : ℕ) → Merging m more parts (q ∷ left) old place → (is_within (m *ℤ q.by) && all_within (put_any (multiple m q) (old ++ drop place parts))) ≡ false → None ≡ put_multiples m more parts
merging_wide m q more parts left old place g wide =
    sym (ap (λ (b : Bool). if b then put_multiples m left (put_any (multiple m q) (old ++ drop place parts)) else None) wide) ∙ g.same

pub put_multiples_gathered : (m : ℤ) (ps sum r : List Part) → IsGathered sum → put_multiples m ps sum ≡ Some r → IsGathered r
put_multiples_gathered m [] sum r g h =
    let same : sum ≡ r = cc in
    subst IsGathered same g
put_multiples_gathered m (p ∷ ps) sum r g h =
    by_test (is_within (m *ℤ p.by)) (all_within (put_any (multiple m p) sum)) refl h (λ e k. put_multiples_gathered m ps (put_any (multiple m p) sum) r (is_gathered-put_any (multiple m p) sum g e) k)
  where
    by_test : (b c : Bool) → all_within (put_any (multiple m p) sum) ≡ c → (if b && c then put_multiples m ps (put_any (multiple m p) sum) else None) ≡ Some r → (all_within (put_any (multiple m p) sum) ≡ true → put_multiples m ps (put_any (multiple m p) sum) ≡ Some r → IsGathered r) → IsGathered r
    by_test true true e h f = f e h
    by_test true false e h f = absurd (cc)
    by_test false c e h f = absurd (cc)
