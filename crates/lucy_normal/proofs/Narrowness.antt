-- The clauses of small normal conditions make a narrow formula.
use Rattle.std.proofs.Common.{◌≡◌, true, ◌&&◌, ℕ, zero, suc, ◌+◌, ◌*◌, ◌^◌, ◌<◌, ◌≤◌, nat_lt, nat_le, ℤ, unsigned_abs, List, [], ◌∷◌, ◌++◌, length, refl, ap, ◌∙◌, arith}
use Rattle.std.proofs.lemmas.Bool.Decides.{nat_tests}
use Rattle.std.proofs.lemmas.List.Folds.{list_all-append}
use Rattle.std.proofs.Math.Nat.{mul-le-mul_left}
use Rattle.lucy_clauses.specs.declared.parts.Part.{Part}
use Rattle.lucy_clauses.specs.declared.formulas.Range.{Range}
use Rattle.lucy_clauses.specs.Sums.{Form}
use Rattle.lucy_clauses.specs.Parts.{total_size}
use Rattle.lucy_clauses.specs.Formulas.{range_size, size_at, weight, names_below, is_narrow_atom}
use Rattle.lucy_normal.specs.Shapes.{is_on, is_off, is_over, is_small, are_small_ranges, binaries, put_all, fresh_of_all}
use Rattle.lucy_normal.specs.Laws.{ClausesAreNarrow}
use Rattle.lucy_normal.proofs.Tests.{two, both}
use Rattle.lucy_normal.proofs.Sizes.{small_test}
use Rattle.lucy_normal.proofs.Growing.{put_all_grows}
use Rattle.lucy_normal.proofs.Keeping.{Literals, Weaker, put_all_keeps, normals_weaker, atoms_weaker, longer}

le_of : (m n : ℕ) → nat_le m n ≡ true → m ≤ n
le_of m n h = grind (arith, nat_tests, h)

le_test : (m n : ℕ) → m ≤ n → nat_le m n ≡ true
le_test m n h = grind (arith, nat_tests, h)

less_test : (m n : ℕ) → m < n → nat_lt m n ≡ true
less_test m n h = grind (arith, nat_tests, h)

size_small : (rs : List Range) (v : ℕ) → are_small_ranges rs ≡ true → size_at rs v ≤ 2 ^ 40
size_small [] v h = omega arith
size_small (r ∷ rs) zero h = le_of (range_size r) (2 ^ 40) (two (nat_le (range_size r) (2 ^ 40)) (are_small_ranges rs) h).0
size_small (r ∷ rs) (suc v) h = size_small rs v (two (nat_le (range_size r) (2 ^ 40)) (are_small_ranges rs) h).1

weight_small : (rs : List Range) (ps : List Part) → are_small_ranges rs ≡ true → weight rs ps ≤ total_size ps * 2 ^ 40
weight_small rs [] h = omega arith
weight_small rs (p ∷ ps) h = omega (arith, weight_small rs ps h, mul-le-mul_left (unsigned_abs p.by) (size_small rs p.variable h))

-- what a small atom keeps
pub record IsSmallForm (n : ℕ) (t : Form) : Type 0 where
  pub over : is_over n t ≡ true
  pub bound : unsigned_abs t.bound ≤ 2 ^ 64
  pub size : total_size t.parts ≤ 2 ^ 27

pub small_form : (n : ℕ) (t : Form) → is_small n t ≡ true → IsSmallForm n t
small_form n t h =
    let u = two (is_over n t && nat_le (unsigned_abs t.bound) (2 ^ 64)) (nat_le (total_size t.parts) (2 ^ 27)) h in
    let v = two (is_over n t) (nat_le (unsigned_abs t.bound) (2 ^ 64)) u.0 in
    record { over = v.0; bound = le_of (unsigned_abs t.bound) (2 ^ 64) v.1; size = le_of (total_size t.parts) (2 ^ 27) u.1 }

narrow_size : (bound size w : ℕ) → bound ≤ 2 ^ 64 → size ≤ 2 ^ 27 → w ≤ size * 2 ^ 40 → bound + w ≤ 2 ^ 100
narrow_size bound size w h k l = omega (arith, h, k, l)

small_narrow : (rs : List Range) → are_small_ranges rs ≡ true → Weaker (is_small (length rs)) (is_narrow_atom rs)
small_narrow rs h = record {
  is = λ t k. (let s = small_form (length rs) t k in both (is_over (length rs) t) (nat_le (unsigned_abs t.bound + weight rs t.parts) (2 ^ 100)) s.over
      (le_test (unsigned_abs t.bound + weight rs t.parts) (2 ^ 100) (narrow_size (unsigned_abs t.bound) (total_size t.parts) (weight rs t.parts) s.bound s.size (weight_small rs t.parts h))));
}

names_further : (m n : ℕ) (ps : List Part) → m ≤ n → names_below m ps ≡ true → names_below n ps ≡ true
names_further m n [] k h = refl
names_further m n (p ∷ ps) k h =
    let t = two (nat_lt p.variable m) (names_below m ps) h in
    both (nat_lt p.variable n) (names_below n ps) (further p.variable m n k t.0) (names_further m n ps k t.1)
  where
    further : (v m n : ℕ) → m ≤ n → nat_lt v m ≡ true → nat_lt v n ≡ true
    further v m n k h = grind (arith, nat_tests, k, h)

small_further : (m n : ℕ) → m ≤ n → Weaker (is_small m) (is_small n)
small_further m n k = record { is = λ t h. (let s = small_form m t h in small_test n (unsigned_abs t.bound) (total_size t.parts) (is_over n t) (names_further m n t.parts k s.over) s.bound s.size) }

literals_small : (n : ℕ) → Literals (is_small n) n
literals_small n = record {
  on = λ y h. small_test n 1 1 (is_over n (is_on y)) (both (nat_lt y n) true (less_test y n h) refl) (omega arith) (omega arith);
  off = λ y h. small_test n 0 1 (is_over n (is_off y)) (both (nat_lt y n) true (less_test y n h) refl) (omega arith) (omega arith);
}

binaries_small : (xs : List ℤ) → are_small_ranges (binaries xs) ≡ true
binaries_small [] = refl
binaries_small (x ∷ xs) = both true (are_small_ranges (binaries xs)) refl (binaries_small xs)

ranges_small : (rs qs : List Range) (xs : List ℤ) → rs ≡ qs ++ binaries xs → are_small_ranges qs ≡ true → are_small_ranges rs ≡ true
ranges_small rs qs xs e h = ap are_small_ranges e ∙ list_all-append (λ (r : Range). nat_le (range_size r) (2 ^ 40)) qs (binaries xs) ∙ both (are_small_ranges qs) (are_small_ranges (binaries xs)) h (binaries_small xs)

same : (n : ℕ) → n ≤ n
same n = omega arith

pub clauses_are_narrow : ClausesAreNarrow
clauses_are_narrow ps f ranges atoms normals =
    let grown = put_all_grows ps f [] in
    let n = length (put_all ps f).ranges in
    let further = small_further (length f.ranges) n (longer (put_all ps f).ranges f.ranges (binaries (fresh_of_all ps [])) grown) in
    let small = put_all_keeps (is_small n) n ps f (literals_small n) (normals_weaker (is_small (length f.ranges)) (is_small n) further ps normals) (atoms_weaker (is_small (length f.ranges)) (is_small n) further f atoms) (same n) in
    atoms_weaker (is_small n) (is_narrow_atom (put_all ps f).ranges) (small_narrow (put_all ps f).ranges (ranges_small (put_all ps f).ranges f.ranges (fresh_of_all ps []) grown ranges)) (put_all ps f) small

-- small atoms are over the variables
pub small_over : (n : ℕ) → Weaker (is_small n) (is_over n)
small_over n = record { is = λ t h. (small_form n t h).over }
