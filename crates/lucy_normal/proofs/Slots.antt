-- The shares of a term, and how small they are together.
use Rattle.std.proofs.Common.{◌≡◌, ℕ, zero, suc, ◌+◌, ◌*◌, ◌^◌, ◌<◌, ◌≤◌, nat_le, nat_lt, Bool, true, ◌&&◌, ℤ, pos, negsuc, neg_ℤ, unsigned_abs, List, [], ◌∷◌, map, refl, ap, ◌∙◌, arith}
use Rattle.std.proofs.lemmas.Bool.Decides.{nat_tests}
use Rattle.lucy_clauses.specs.declared.parts.Part.{Part}
use Rattle.lucy_clauses.specs.Sums.{negative_part}
use Rattle.lucy_clauses.specs.Parts.{total_size, stays_within}
use Rattle.lucy_clauses.proofs.GatheredParts.{small_stays}
use Rattle.lucy_model.specs.declared.terms.Share.{Share}
use Rattle.lucy_model.specs.declared.terms.Term.{Term}
use Rattle.lucy_model.specs.Terms.{are_shares, is_term}
use Rattle.lucy_normal.specs.Normals.{placed_all, are_slots}

pub share_tested : (from end slot size : ℕ) (rest : Bool) → (nat_le from slot && nat_lt slot end && nat_le size 1000000 && rest) ≡ true → (from ≤ slot) × (slot < end) × (size ≤ 1000000) × (rest ≡ true)
share_tested from end slot size rest h = grind (arith, nat_tests)

less_test : (v w : ℕ) → v < w → nat_lt v w ≡ true
less_test v w h = grind (arith, nat_tests, h)

both : (x y : Bool) → x ≡ true → y ≡ true → (x && y) ≡ true
both x y h k = ap (λ (z : Bool). z && y) h ∙ k

-- what is known of a term over so many leaves, without arguments
pub record IsPlainTerm (leaves : ℕ) (t : Term) : Type 0 where
  pub leaves_are : are_shares 0 leaves t.leaves ≡ true
  pub arguments_are : are_shares 0 0 t.arguments ≡ true
  pub constant : unsigned_abs t.constant ≤ 2 ^ 62

three : (x y : Bool) (n : ℕ) → (x && y && nat_le n (2 ^ 62)) ≡ true → (x ≡ true) × (y ≡ true) × (n ≤ 2 ^ 62)
three x y n h = grind (arith, nat_tests, h)

pub plain_term : (leaves : ℕ) (t : Term) → is_term leaves 0 t ≡ true → IsPlainTerm leaves t
plain_term leaves t h =
    let all = three (are_shares 0 leaves t.leaves) (are_shares 0 0 t.arguments) (unsigned_abs t.constant) h in
    record { leaves_are = all.0; arguments_are = all.1; constant = all.2 }

pub shares_slots : (from leaves : ℕ) (ss : List Share) → are_shares from leaves ss ≡ true → are_slots leaves ss ≡ true
shares_slots from leaves [] h = refl
shares_slots from leaves (s ∷ ss) h =
    let t = share_tested from leaves s.slot (unsigned_abs s.by) (are_shares (s.slot + 1) leaves ss) h in
    both (nat_lt s.slot leaves) (are_slots leaves ss) (less_test s.slot leaves t.1) (shares_slots (s.slot + 1) leaves ss t.3)

-- shares from a slot on, with factors of a million at most, are small together
shares_small : (first from leaves : ℕ) (ss : List Share) → are_shares from leaves ss ≡ true → from ≤ leaves → total_size (placed_all first ss) + 1000000 * from ≤ 1000000 * leaves
shares_small first from leaves [] h k = omega (arith, k)
shares_small first from leaves (s ∷ ss) h k =
    let t = share_tested from leaves s.slot (unsigned_abs s.by) (are_shares (s.slot + 1) leaves ss) h in
    let rest = shares_small first (s.slot + 1) leaves ss t.3 (omega (arith, t.1)) in
    omega (arith, t.0, t.1, t.2, rest)

neg_size : (x : ℤ) → unsigned_abs (neg_ℤ x) ≡ unsigned_abs x
neg_size (pos zero) = refl
neg_size (pos (suc n)) = refl
neg_size (negsuc n) = refl

pub size-negative : (ps : List Part) → total_size (map negative_part ps) ≡ total_size ps
size-negative [] = refl
size-negative (p ∷ ps) = ap (λ (n : ℕ). n + total_size (map negative_part ps)) (neg_size p.by) ∙ ap (λ (n : ℕ). unsigned_abs p.by + n) (size-negative ps)

pub term_small : (first leaves : ℕ) (t : Term) → is_term leaves 0 t ≡ true → total_size (placed_all first t.leaves) ≤ 1000000 * leaves
term_small first leaves t h = omega (arith, shares_small first 0 leaves t.leaves (plain_term leaves t h).leaves_are (omega arith))

pub term_slots : (leaves : ℕ) (t : Term) → is_term leaves 0 t ≡ true → are_slots leaves t.leaves ≡ true
term_slots leaves t h = shares_slots 0 leaves t.leaves (plain_term leaves t h).leaves_are

pub term_stays : (first leaves : ℕ) (t : Term) → is_term leaves 0 t ≡ true → first + leaves ≤ 2 ^ 32 → stays_within [] (placed_all first t.leaves) ≡ true
term_stays first leaves t h room = small_stays (placed_all first t.leaves) (omega (arith, room, term_small first leaves t h))

pub term_stays_negative : (first leaves : ℕ) (t : Term) → is_term leaves 0 t ≡ true → first + leaves ≤ 2 ^ 32 → stays_within [] (map negative_part (placed_all first t.leaves)) ≡ true
term_stays_negative first leaves t h room =
    small_stays (map negative_part (placed_all first t.leaves)) (omega (arith, room, term_small first leaves t h, size-negative (placed_all first t.leaves)))
