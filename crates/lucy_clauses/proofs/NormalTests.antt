-- The test of normal form is exact, and the passes by which it is made.
use Rattle.std.proofs.Common.{◌≡◌, ℕ, ◌+◌, ◌<◌, ◌==◌, ◌&&◌, nat_lt, nat_le, eqb-true, Bool, true, false, not, List, [], ◌∷◌, length, ap, sym, ◌∙◌, refl, subst, arith}
use Rattle.std.proofs.lemmas.Bool.Decides.{nat_tests}
use Rattle.std.proofs.Math.Nat.{eq-one_of_dvd-one}
use Prim.Native.Nat.{◌∣◌}
use Rattle.lucy_clauses.specs.declared.parts.Part.{Part}
use Rattle.lucy_clauses.specs.Parts.{is_empty, above, ascends, none_zero, all_within}
use Rattle.lucy_clauses.specs.Dividing.{common_divisor}
use Rattle.lucy_clauses.specs.Normal.{IsNormal, is_normal, NormalTest}
use Rattle.lucy_clauses.proofs.Mapping.{two_tests, both_tests}
use Rattle.lucy_clauses.proofs.GatheredParts.{above_further}
use Rattle.lucy_clauses.proofs.Divisors.{divisor_common}

-- ---- ascending parts, by the least variable that may come

abbrev pub ascends_from : ℕ → List Part → Bool
ascends_from least [] = true
ascends_from least (p ∷ ps) = nat_le least p.variable && ascends_from (p.variable + 1) ps

next_test : (v w : ℕ) → nat_le (v + 1) w ≡ nat_lt v w
next_test v w = grind (arith, nat_tests)

ascends_next : (v : ℕ) (ps : List Part) → ascends_from (v + 1) ps ≡ (above v ps && ascends ps)
ascends_next v [] = refl
ascends_next v (p ∷ ps) =
    ap (λ (b : Bool). b && ascends_from (p.variable + 1) ps) (next_test v p.variable)
    ∙ ap (λ (b : Bool). nat_lt v p.variable && b) (ascends_next p.variable ps)
    ∙ by_tests (nat_lt v p.variable) (above v ps) (above p.variable ps) (ascends ps) (above_further v p.variable ps)
  where
    by_tests : (a b c d : Bool) → (a ≡ true → c ≡ true → b ≡ true) → (a && (c && d)) ≡ ((a && b) && (c && d))
    by_tests false b c d f = refl
    by_tests true b true d f = ap (λ (x : Bool). x && d) (sym (f refl refl))
    by_tests true true false d f = refl
    by_tests true false false d f = refl

pub ascends_first : (ps : List Part) → ascends_from 0 ps ≡ ascends ps
ascends_first [] = refl
ascends_first (p ∷ ps) = ap (λ (b : Bool). b && ascends_from (p.variable + 1) ps) (least p.variable) ∙ ascends_next p.variable ps
  where
    least : (v : ℕ) → nat_le 0 v ≡ true
    least v = grind (arith, nat_tests)

-- ---- the test

some_test : (ps : List Part) → not (is_empty ps) ≡ true → 0 < length ps
some_test [] h = absurd (cc)
some_test (p ∷ ps) h = omega arith

test_some : (ps : List Part) → 0 < length ps → not (is_empty ps) ≡ true
test_some [] h = absurd (omega arith)
test_some (p ∷ ps) h = refl

one_test : (n : ℕ) → n ≡ 1 → (n == 1) ≡ true
one_test n h = grind (arith, nat_tests, h)

tested : (ps : List Part) → is_normal ps ≡ true → IsNormal ps
tested ps h =
    let a = two_tests (not (is_empty ps) && ascends ps && none_zero ps && all_within ps) (common_divisor 0 ps == 1) h in
    let b = two_tests (not (is_empty ps) && ascends ps && none_zero ps) (all_within ps) a.0 in
    let c = two_tests (not (is_empty ps) && ascends ps) (none_zero ps) b.0 in
    let d = two_tests (not (is_empty ps)) (ascends ps) c.0 in
    let one : common_divisor 0 ps ≡ 1 = eqb-true (common_divisor 0 ps) 1 a.1 in
    record {
      some = some_test ps d.0;
      ascending = d.1;
      nonzero = c.1;
      within = b.1;
      coprime = λ k all. eq-one_of_dvd-one (subst (λ (n : ℕ). k ∣ n) one ((divisor_common ps).greatest k all));
    }

passes : (ps : List Part) → IsNormal ps → is_normal ps ≡ true
passes ps n =
    both_tests (not (is_empty ps) && ascends ps && none_zero ps && all_within ps) (common_divisor 0 ps == 1)
    (both_tests (not (is_empty ps) && ascends ps && none_zero ps) (all_within ps)
    (both_tests (not (is_empty ps) && ascends ps) (none_zero ps)
    (both_tests (not (is_empty ps)) (ascends ps) (test_some ps n.some) n.ascending) n.nonzero) n.within)
    (one_test (common_divisor 0 ps) (n.coprime (common_divisor 0 ps) (divisor_common ps).divides))

pub normal_test : NormalTest
normal_test ps = (tested ps, passes ps)
