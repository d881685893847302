-- The order of parts, and that the needed parts ascend.
use Rattle.std.proofs.Common.{◌≡◌, ℕ, ◌+◌, Bool, true, false, cond, ◌&&◌, eqb, nat_lt, List, [], ◌∷◌, ◌++◌, length, Some, refl, ap, arith}
use Rattle.std.specs.List.{list_all}
use Rattle.std.proofs.lemmas.Bool.{and_parts}
use Rattle.std.proofs.lemmas.Bool.Decides.{nat_tests}
use Rattle.lucy_plan.specs.declared.parts.Segment.{Segment}
use Rattle.lucy_plan.specs.declared.parts.PlanParts.{PlanParts}
use Rattle.lucy_plan.specs.Soundness.{runs_some}
use Rattle.lucy_cert.specs.declared.names.PartName.{PartName}
use Rattle.lucy_cert.specs.declared.names.PartName.TheVariants.{Closure, Cover}
use Rattle.lucy_cert.specs.Names.{is_before, ascend}
use Rattle.lucy_judge.specs.Judging.{closures_from, needed, is_same}
use Rattle.lucy_judge.specs.Keeping.{name_fits, names_fit}

pub both_true : (a b : Bool) → a ≡ true → b ≡ true → (a && b) ≡ true
both_true a b p q = rw (p, q) refl

less_trans : (j k l : ℕ) → nat_lt j k ≡ true → nat_lt k l ≡ true → nat_lt j l ≡ true
less_trans j k l p q = grind (arith, nat_tests, p, q)

less_other : (j k : ℕ) → nat_lt j k ≡ true → eqb k j ≡ false
less_other j k p = grind (arith, nat_tests, p)

less_other' : (j k : ℕ) → nat_lt j k ≡ true → eqb j k ≡ false
less_other' j k p = grind (arith, nat_tests, p)

above : (j k : ℕ) → nat_lt j k ≡ false → eqb j k ≡ false → nat_lt k j ≡ true
above j k p q = grind (arith, nat_tests, p, q)

equal : (j k : ℕ) → eqb j k ≡ true → j ≡ k
equal j k p = grind (arith, nat_tests, p)

self : (k : ℕ) → eqb k k ≡ true
self k = grind (arith, nat_tests)

less_suc : (j k : ℕ) → nat_lt j k ≡ true → nat_lt j (k + 1) ≡ true
less_suc j k p = grind (arith, nat_tests, p)

suc_less : (k : ℕ) → nat_lt k (k + 1) ≡ true
suc_less k = grind (arith, nat_tests)

pub before_trans : (a b c : PartName) → is_before a b ≡ true → is_before b c ≡ true → is_before a c ≡ true
before_trans (Closure j) (Closure k) (Closure l) p q = less_trans j k l p q
before_trans (Closure j) (Closure k) Cover p q = refl
before_trans (Closure j) Cover (Closure l) p q = absurd (cc)
before_trans (Closure j) Cover Cover p q = absurd (cc)
before_trans Cover b c p q = absurd (cc)

-- a part that comes before another is not that one
pub before_other : (a b : PartName) → is_before a b ≡ true → is_same b a ≡ false
before_other (Closure j) (Closure k) p = less_other j k p
before_other (Closure j) Cover p = refl
before_other Cover b p = absurd (cc)

pub before_other' : (a b : PartName) → is_before a b ≡ true → is_same a b ≡ false
before_other' (Closure j) (Closure k) p = less_other' j k p
before_other' (Closure j) Cover p = refl
before_other' Cover b p = absurd (cc)

pub behind : (a b : PartName) → is_before a b ≡ false → is_same a b ≡ false → is_before b a ≡ true
behind (Closure j) (Closure k) p q = above j k p q
behind (Closure j) Cover p q = absurd (cc)
behind Cover (Closure k) p q = refl
behind Cover Cover p q = absurd (cc)

pub same_is : (a b : PartName) → is_same a b ≡ true → a ≡ b
same_is (Closure j) (Closure k) p = ap Closure (equal j k p)
same_is (Closure j) Cover p = absurd (cc)
same_is Cover (Closure k) p = absurd (cc)
same_is Cover Cover p = refl

pub same_self : (a : PartName) → is_same a a ≡ true
same_self (Closure k) = self k
same_self Cover = refl

-- what comes before a part comes before those behind it
pub all_behind : (a b : PartName) (ns : List PartName) → is_before a b ≡ true → list_all (is_before b) ns ≡ true → list_all (is_before a) ns ≡ true
all_behind a b [] p q = refl
all_behind a b (n ∷ ns) p q =
    let parts = and_parts (is_before b n) (list_all (is_before b) ns) q in
    both_true (is_before a n) (list_all (is_before a) ns) (before_trans a b n p parts.0) (all_behind a b ns p parts.1)

-- ---- the needed parts

closures_behind : (j k : ℕ) (ss : List Segment) → nat_lt j k ≡ true → list_all (is_before (Closure j)) (closures_from k ss ++ Cover ∷ []) ≡ true
closures_behind j k [] h = refl
closures_behind j k (s ∷ ss) h = by_case (runs_some (Some s)) (closures_behind j (k + 1) ss (less_suc j k h))
  where
    by_case : (b : Bool) → list_all (is_before (Closure j)) (closures_from (k + 1) ss ++ Cover ∷ []) ≡ true
        → list_all (is_before (Closure j)) (cond b (Closure k ∷ closures_from (k + 1) ss) (closures_from (k + 1) ss) ++ Cover ∷ []) ≡ true
    by_case true rest = both_true (nat_lt j k) _ h rest
    by_case false rest = rest

closures_ascend : (k : ℕ) (ss : List Segment) → ascend (closures_from k ss ++ Cover ∷ []) ≡ true
closures_ascend k [] = refl
closures_ascend k (s ∷ ss) = by_case (runs_some (Some s)) (closures_ascend (k + 1) ss)
  where
    by_case : (b : Bool) → ascend (closures_from (k + 1) ss ++ Cover ∷ []) ≡ true
        → ascend (cond b (Closure k ∷ closures_from (k + 1) ss) (closures_from (k + 1) ss) ++ Cover ∷ []) ≡ true
    by_case true rest = both_true _ _ (closures_behind k (k + 1) ss (suc_less k)) rest
    by_case false rest = rest

pub needed_ascend : (plan : PlanParts) → ascend (needed plan) ≡ true
needed_ascend plan = closures_ascend 0 plan.segments

below : (k n m : ℕ) → k + (n + 1) ≡ m → nat_lt k m ≡ true
below k n m e = grind (arith, nat_tests, e)

closures_fit : (k m : ℕ) (ss : List Segment) → k + length ss ≡ m → list_all (name_fits m) (closures_from k ss ++ Cover ∷ []) ≡ true
closures_fit k m [] e = refl
closures_fit k m (s ∷ ss) e = by_case (runs_some (Some s)) (closures_fit (k + 1) m ss (omega (arith, e)))
  where
    by_case : (b : Bool) → list_all (name_fits m) (closures_from (k + 1) ss ++ Cover ∷ []) ≡ true
        → list_all (name_fits m) (cond b (Closure k ∷ closures_from (k + 1) ss) (closures_from (k + 1) ss) ++ Cover ∷ []) ≡ true
    by_case true rest = both_true (nat_lt k m) _ (below k (length ss) m (omega (arith, e))) rest
    by_case false rest = rest

pub needed_fit : (plan : PlanParts) → names_fit plan (needed plan) ≡ true
needed_fit plan = closures_fit 0 (length plan.segments) plan.segments (omega arith)
