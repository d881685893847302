-- What an assignment says of variables below its end does not change where it goes on.
use Rattle.std.proofs.Common.{◌≡◌, true, ◌||◌, ◌&&◌, ℕ, nat_lt, ◌<◌, ◌≤◌, ℤ, pos, int_le, ◌+ℤ◌, ◌*ℤ◌, List, [], ◌∷◌, ◌++◌, length, map, refl, ap, ◌∙◌, arith}
use Rattle.std.proofs.lemmas.Bool.Decides.{nat_tests}
use Rattle.std.specs.List.{list_all, list_any}
use Rattle.std.proofs.Math.ListN.{get_or-append}
use Rattle.lucy_clauses.specs.declared.parts.Part.{Part}
use Rattle.lucy_clauses.specs.declared.formulas.Clause.{Clause}
use Rattle.lucy_clauses.specs.Sums.{Form, number_at, sum_at, is_true}
use Rattle.lucy_clauses.specs.Formulas.{clause_true, names_below}
use Rattle.lucy_normal.specs.declared.normals.Normal.{Normal}
use Rattle.lucy_normal.specs.Shapes.{Shape, shape, bits, bit_then, freshes, all_each, all_truth, any_truth, is_over}
use Rattle.lucy_normal.proofs.Induction.{Each, shapes}
use Rattle.lucy_normal.proofs.Tests.{two}

below : (v n m : ℕ) → nat_lt v n ≡ true → n ≤ m → v < m
below v n m h k = grind (arith, nat_tests, h, k)

sum_same : (n : ℕ) (ps : List Part) (a e : List ℤ) → n ≤ length a → names_below n ps ≡ true → sum_at ps (a ++ e) ≡ sum_at ps a
sum_same n [] a e k h = refl
sum_same n (p ∷ ps) a e k h =
    let both = two (nat_lt p.variable n) (names_below n ps) h in
    ap (λ x. p.by *ℤ x +ℤ sum_at ps (a ++ e)) (get_or-append a e (pos 0) p.variable (below p.variable n (length a) both.0 k))
    ∙ ap (λ x. p.by *ℤ number_at a p.variable +ℤ x) (sum_same n ps a e k both.1)

atom_same : (n : ℕ) (t : Form) (a e : List ℤ) → n ≤ length a → names_below n t.parts ≡ true → is_true (a ++ e) t ≡ is_true a t
atom_same n t a e k h = ap (λ x. int_le x t.bound) (sum_same n t.parts a e k h)

pub record Local (n : ℕ) (s : Shape) : Type 0 where
  pub truth_same : (a e : List ℤ) → n ≤ length a → s.each (is_over n) ≡ true → s.truth (a ++ e) ≡ s.truth a
  pub fresh_same : (a e : List ℤ) → n ≤ length a → s.each (is_over n) ≡ true → s.fresh (a ++ e) ≡ s.fresh a

all_same : (n : ℕ) (ss : List Shape) → Each (Local n) ss → (a e : List ℤ) → n ≤ length a → all_each ss (is_over n) ≡ true → all_truth ss (a ++ e) ≡ all_truth ss a
all_same n [] i a e k h = refl
all_same n (s ∷ ss) i a e k h =
    let both = two (s.each (is_over n)) (all_each ss (is_over n)) h in
    ap (λ x. x && all_truth ss (a ++ e)) (i.0.truth_same a e k both.0) ∙ ap (λ x. s.truth a && x) (all_same n ss i.1 a e k both.1)

any_same : (n : ℕ) (ss : List Shape) → Each (Local n) ss → (a e : List ℤ) → n ≤ length a → all_each ss (is_over n) ≡ true → any_truth ss (a ++ e) ≡ any_truth ss a
any_same n [] i a e k h = refl
any_same n (s ∷ ss) i a e k h =
    let both = two (s.each (is_over n)) (all_each ss (is_over n)) h in
    ap (λ x. x || any_truth ss (a ++ e)) (i.0.truth_same a e k both.0) ∙ ap (λ x. s.truth a || x) (any_same n ss i.1 a e k both.1)

bits_same : (n : ℕ) (ss : List Shape) → Each (Local n) ss → (a e : List ℤ) → n ≤ length a → all_each ss (is_over n) ≡ true → bits ss (a ++ e) ≡ bits ss a
bits_same n [] i a e k h = refl
bits_same n (s ∷ ss) i a e k h =
    let both = two (s.each (is_over n)) (all_each ss (is_over n)) h in
    ap (λ x. bit_then s.atom x (bits ss (a ++ e))) (i.0.truth_same a e k both.0) ∙ ap (λ xs. bit_then s.atom (s.truth a) xs) (bits_same n ss i.1 a e k both.1)

freshes_same : (n : ℕ) (ss : List Shape) → Each (Local n) ss → (a e : List ℤ) → n ≤ length a → all_each ss (is_over n) ≡ true → freshes ss (a ++ e) ≡ freshes ss a
freshes_same n [] i a e k h = refl
freshes_same n (s ∷ ss) i a e k h =
    let both = two (s.each (is_over n)) (all_each ss (is_over n)) h in
    ap (λ xs. xs ++ freshes ss (a ++ e)) (i.0.fresh_same a e k both.0) ∙ ap (λ xs. s.fresh a ++ xs) (freshes_same n ss i.1 a e k both.1)

pub local : (n : ℕ) (p : Normal) → Local n (shape p)
local n = shapes (Local n)
    (λ t. record { truth_same = atom_same n t; fresh_same = λ a e k h. refl })
    (λ ss i. record { truth_same = all_same n ss i; fresh_same = freshes_same n ss i })
    (λ ss i. record {
      truth_same = any_same n ss i;
      fresh_same = λ a e k h. (ap (λ xs. xs ++ freshes ss (a ++ e)) (bits_same n ss i a e k h) ∙ ap (λ xs. bits ss a ++ xs) (freshes_same n ss i a e k h));
    })

pub atoms_same : (n : ℕ) (ts : List Form) (a e : List ℤ) → n ≤ length a → list_all (is_over n) ts ≡ true → list_any (is_true (a ++ e)) ts ≡ list_any (is_true a) ts
atoms_same n [] a e k h = refl
atoms_same n (t ∷ ts) a e k h =
    let both = two (names_below n t.parts) (list_all (is_over n) ts) h in
    ap (λ x. x || list_any (is_true (a ++ e)) ts) (atom_same n t a e k both.0) ∙ ap (λ x. is_true a t || x) (atoms_same n ts a e k both.1)

pub clauses_same : (n : ℕ) (cs : List Clause) (a e : List ℤ) → n ≤ length a → list_all (λ (c : Clause). list_all (is_over n) c.atoms) cs ≡ true → list_all (clause_true (a ++ e)) cs ≡ list_all (clause_true a) cs
clauses_same n [] a e k h = refl
clauses_same n (c ∷ cs) a e k h =
    let both = two (list_all (is_over n) c.atoms) (list_all (λ (c : Clause). list_all (is_over n) c.atoms) cs) h in
    ap (λ x. x && list_all (clause_true (a ++ e)) cs) (atoms_same n c.atoms a e k both.0) ∙ ap (λ x. clause_true a c && x) (clauses_same n cs a e k both.1)

pub each_local : (n : ℕ) (ps : List Normal) → Each (Local n) (map shape ps)
each_local n [] = tt
each_local n (p ∷ ps) = (local n p, each_local n ps)

pub all_truth_same : (n : ℕ) (ps : List Normal) (a e : List ℤ) → n ≤ length a → all_each (map shape ps) (is_over n) ≡ true → all_truth (map shape ps) (a ++ e) ≡ all_truth (map shape ps) a
all_truth_same n ps = all_same n (map shape ps) (each_local n ps)

pub freshes_all_same : (n : ℕ) (ps : List Normal) (a e : List ℤ) → n ≤ length a → all_each (map shape ps) (is_over n) ≡ true → freshes (map shape ps) (a ++ e) ≡ freshes (map shape ps) a
freshes_all_same n ps = freshes_same n (map shape ps) (each_local n ps)
