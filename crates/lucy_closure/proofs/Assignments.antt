-- Assignments as states one behind another.
use Rattle.std.proofs.Common.{◌≡◌, ℕ, suc, ◌+◌, Bool, true, ◌&&◌, ℤ, pos, int_le, List, [], ◌∷◌, ◌++◌, length, take, drop, refl, sym, ap, ◌∙◌, subst, arith}
use Rattle.std.proofs.Math.ListN.{get_or-append}
use Rattle.std.proofs.lemmas.List.{get_or-append-add}
use Rattle.lucy_clauses.specs.declared.formulas.Range.{Range}
use Rattle.lucy_clauses.specs.Sums.{number_at}
use Rattle.lucy_clauses.specs.Formulas.{are_within}
use Rattle.lucy_model.specs.declared.leaves.Leaf.{Leaf}
use Rattle.lucy_model.specs.Ranges.{all_allowed}
use Rattle.lucy_normal.specs.Laws.{SaysState}
use Rattle.lucy_normal.proofs.Tests.{and_last, and_put}
use Rattle.lucy_normal.proofs.Growing.{front_within}
use Rattle.lucy_normal.proofs.Making.{within_length}
use Rattle.lucy_closure.specs.Formulas.{ranges_of}

-- ---- a state behind others

pub says_front : (n : ℕ) (xs more : List ℤ) → length xs ≡ n → SaysState 0 n xs (xs ++ more)
says_front n xs more e leaf h = ap (λ (i : ℕ). number_at (xs ++ more) i) (plus leaf) ∙ get_or-append xs more (pos 0) leaf (omega (arith, h, e))
  where
    plus : (i : ℕ) → 0 + i ≡ i
    plus i = omega arith

pub says_behind : (v n k : ℕ) (xs zs a : List ℤ) → length zs ≡ k → SaysState v n xs a → SaysState (k + v) n xs (zs ++ a)
says_behind v n k xs zs a e says leaf h =
    ap (λ (i : ℕ). number_at (zs ++ a) i) (place k v leaf (length zs) e) ∙ get_or-append-add zs a (v + leaf) (pos 0) ∙ says leaf h
  where
    place : (k v leaf l : ℕ) → l ≡ k → (k + v) + leaf ≡ l + (v + leaf)
    place k v leaf l e = omega (arith, e)

pub says_head : (v n : ℕ) (x : ℤ) (xs a : List ℤ) → SaysState v (suc n) (x ∷ xs) a → number_at a v ≡ x
says_head v n x xs a says = ap (λ (i : ℕ). number_at a i) (plus v) ∙ says 0 (omega arith)
  where
    plus : (v : ℕ) → v ≡ v + 0
    plus v = omega arith

pub says_tail : (v n : ℕ) (x : ℤ) (xs a : List ℤ) → SaysState v (suc n) (x ∷ xs) a → SaysState (v + 1) n xs a
says_tail v n x xs a says leaf h = ap (λ (i : ℕ). number_at a i) (place v leaf) ∙ says (suc leaf) (omega (arith, h))
  where
    place : (v leaf : ℕ) → (v + 1) + leaf ≡ v + suc leaf
    place v leaf = omega arith

pub says_at : (v w n : ℕ) (xs a : List ℤ) → v ≡ w → SaysState v n xs a → SaysState w n xs a
says_at v w n xs a e = subst (λ (u : ℕ). SaysState u n xs a) e

-- ---- ranges

pub within_allowed : (object : List Leaf) (xs : List ℤ) → are_within (ranges_of object) xs ≡ all_allowed object xs
within_allowed [] [] = refl
within_allowed [] (x ∷ xs) = refl
within_allowed (leaf ∷ object) [] = refl
within_allowed (leaf ∷ object) (x ∷ xs) = ap (λ (b : Bool). (int_le leaf.lo x && int_le x leaf.hi) && b) (within_allowed object xs)

pub length-ranges : (object : List Leaf) → length (ranges_of object) ≡ length object
length-ranges [] = refl
length-ranges (leaf ∷ object) = ap suc (length-ranges object)

pub back_within : (rs more : List Range) (b : List ℤ) → are_within (rs ++ more) b ≡ true → are_within more (drop (length rs) b) ≡ true
back_within [] more b h = h
back_within (r ∷ rs) more [] h = absurd (cc)
back_within (r ∷ rs) more (x ∷ b) h = back_within rs more b (and_last (int_le r.lo x) (int_le x r.hi) (are_within (rs ++ more) b) h)

pub join_within : (rs qs : List Range) (xs ys : List ℤ) → are_within rs xs ≡ true → are_within qs ys ≡ true → are_within (rs ++ qs) (xs ++ ys) ≡ true
join_within [] qs [] ys h k = k
join_within [] qs (x ∷ xs) ys h k = absurd (cc)
join_within (r ∷ rs) qs [] ys h k = absurd (cc)
join_within (r ∷ rs) qs (x ∷ xs) ys h k =
    and_put (int_le r.lo x) (int_le x r.hi) (are_within rs xs) (are_within (rs ++ qs) (xs ++ ys)) h (join_within rs qs xs ys (and_last (int_le r.lo x) (int_le x r.hi) (are_within rs xs) h) k)

-- the first numbers of an assignment are a state
pub record First (object : List Leaf) (more : List Range) (b : List ℤ) : Type 0 where
  pub allowed : all_allowed object (take (length object) b) ≡ true
  pub even : length (take (length object) b) ≡ length object
  pub rest : are_within more (drop (length object) b) ≡ true

pub first_of : (object : List Leaf) (more : List Range) (b : List ℤ) → are_within (ranges_of object ++ more) b ≡ true → First object more b
first_of object more b h =
    let n = length-ranges object in
    let front : are_within (ranges_of object) (take (length object) b) ≡ true =
    ap (λ (k : ℕ). are_within (ranges_of object) (take k b)) (sym n) ∙ front_within (ranges_of object) more b h in
    record {
      allowed = sym (within_allowed object (take (length object) b)) ∙ front;
      even = sym (within_length (ranges_of object) (take (length object) b) front) ∙ n;
      rest = ap (λ (k : ℕ). are_within more (drop k b)) (sym n) ∙ back_within (ranges_of object) more b h;
    }
