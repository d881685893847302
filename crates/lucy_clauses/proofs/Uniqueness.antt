-- An inequality has one normal form, and one complement.
use Rattle.std.proofs.Common.{◌≡◌, ℕ, suc, ◌*◌, ◌/◌, ◌<◌, ℤ, pos, negsuc, neg_ℤ, ◌-ℤ◌, ◌*ℤ◌, List, [], ◌∷◌, map, ap, sym, ◌∙◌, refl, arith}
use Rattle.std.specs.Int.{int_div_euclid}
use Rattle.std.proofs.lemmas.Int.{ints}
use Rattle.std.proofs.Math.Nat.{mul-div_cancel_left}
use Rattle.lucy_clauses.specs.declared.parts.Part.{Part}
use Rattle.lucy_clauses.specs.Sums.{form, scaled, negative_part}
use Rattle.lucy_clauses.specs.Laws.{ComplementTwice, ScaledPartsAreUnique, NormalFormIsUnique}
use Rattle.lucy_clauses.proofs.Products.{neg_twice, below_twice}
use Rattle.lucy_clauses.proofs.Divisors.{same_multiples}

part : ℕ → ℤ → Part
part v x = record { variable = v; by = x }

cancelled : (k m n : ℕ) → 0 < k → k * m ≡ k * n → m ≡ n
cancelled k m n some e = sym (mul-div_cancel_left m some) ∙ ap (λ (x : ℕ). x / k) e ∙ mul-div_cancel_left n some

some_product : (a b : ℕ) → 0 < a → 0 < b → 0 < a * b
some_product a b p q = grind arith

cancel : (k : ℕ) (x y : ℤ) → 0 < k → pos k *ℤ x ≡ pos k *ℤ y → x ≡ y
cancel k (pos m) (pos n) some e = ap (λ (j : ℕ). pos j) (cancelled k m n some (omega (arith, ints, e)))
cancel k (pos m) (negsuc n) some e = absurd (omega (arith, ints, e, some_product k (suc n)))
cancel k (negsuc m) (pos n) some e = absurd (omega (arith, ints, e, some_product k (suc m)))
cancel k (negsuc m) (negsuc n) some e = ap (λ (j : ℕ). neg_ℤ (pos j)) (cancelled k (suc m) (suc n) some (omega (arith, ints, e)))

cancel_part : (k : ℕ) (p q : Part) → 0 < k → scaled k p ≡ scaled k q → p ≡ q
unfolding part
cancel_part k p q some e =
    let same_variable = ap (λ (r : Part). r.variable) e in
    let same_by = cancel k p.by q.by some (ap (λ (r : Part). r.by) e) in
    ap (λ (v : ℕ). part v p.by) same_variable ∙ ap (λ (x : ℤ). part q.variable x) same_by

heads : {A : Type 0} {x y : A} {xs ys : List A} → x ∷ xs ≡ y ∷ ys → x ≡ y
heads e = cc

tails : {A : Type 0} {x y : A} {xs ys : List A} → x ∷ xs ≡ y ∷ ys → xs ≡ ys
tails e = cc

cancel_parts : (k : ℕ) (ps qs : List Part) → 0 < k → map (scaled k) ps ≡ map (scaled k) qs → ps ≡ qs
cancel_parts k [] [] some e = refl
cancel_parts k [] (q ∷ qs) some e = absurd (cc)
cancel_parts k (p ∷ ps) [] some e = absurd (cc)
cancel_parts k (p ∷ ps) (q ∷ qs) some e =
    ap (λ (r : Part). r ∷ ps) (cancel_part k p q some (heads e)) ∙ ap (λ (rs : List Part). q ∷ rs) (cancel_parts k ps qs some (tails e))

pub parts_unique : ScaledPartsAreUnique
parts_unique k l ps qs k_some l_some p q e =
    let same = same_multiples k l ps qs k_some l_some p q e in
    cancel_parts k ps qs k_some (e ∙ ap (λ (n : ℕ). map (scaled n) qs) (sym same))

pub form_unique : NormalFormIsUnique
form_unique ps bound t u n m =
    let e = n.parts_are ∙ sym m.parts_are in
    let same = same_multiples n.by m.by t.parts u.parts n.positive m.positive n.normal m.normal e in
    let parts = parts_unique n.by m.by t.parts u.parts n.positive m.positive n.normal m.normal e in
    let bounds = n.bound_is ∙ ap (λ (k : ℕ). int_div_euclid bound (pos k)) same ∙ sym m.bound_is in
    ap (λ (qs : List Part). form qs t.bound) parts ∙ ap (λ (b : ℤ). form u.parts b) bounds

negative_twice : (ps : List Part) → map negative_part (map negative_part ps) ≡ ps
unfolding part
negative_twice [] = refl
negative_twice (p ∷ ps) =
    ap (λ (x : ℤ). part p.variable x ∷ map negative_part (map negative_part ps)) (neg_twice p.by) ∙ ap (λ (qs : List Part). p ∷ qs) (negative_twice ps)

pub twice : ComplementTwice
twice t = ap (λ (qs : List Part). form qs (neg_ℤ (neg_ℤ t.bound -ℤ pos 1) -ℤ pos 1)) (negative_twice t.parts) ∙ ap (λ (b : ℤ). form t.parts b) (below_twice t.bound)
