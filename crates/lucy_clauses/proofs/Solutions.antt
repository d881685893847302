-- What sums are worth, through gathering, dividing and the complement.
use Rattle.std.proofs.Common.{◌≡◌, ℕ, zero, suc, ℤ, pos, negsuc, neg_ℤ, ◌+ℤ◌, ◌-ℤ◌, ◌*ℤ◌, int_le, Bool, true, false, not, nat_lt, ◌==◌, eqb-true, if◌then◌else◌, List, [], ◌∷◌, map, ap, sym, ◌∙◌, refl, arith}
use Rattle.std.proofs.lemmas.Int.{ints}
use Rattle.std.proofs.lemmas.Bool.Decides.{Decides-int_eq}
use Rattle.lucy_clauses.specs.declared.parts.Part.{Part}
use Rattle.lucy_clauses.specs.declared.atoms.Plain.TheVariants.{Always, Never}
use Rattle.lucy_clauses.specs.Plain.{plain_true, constant_plain}
use Rattle.lucy_clauses.specs.Sums.{Form, form, number_at, sum_at, is_true, negative_part, complement, scaled}
use Rattle.lucy_clauses.specs.Parts.{is_zero, sum_part, grown, put, put_any, gathered_onto, gathered}
use Rattle.lucy_clauses.specs.Normal.{IsNormalForm}
use Rattle.lucy_clauses.proofs.Products.{over_sum, times_sum, regroup, divided_holds, opposite_holds}

-- what a part adds
abbrev pub worth : List ℤ → Part → ℤ
worth a p = p.by *ℤ number_at a p.variable

sum_at-grown : (p : Part) (ps : List Part) (a : List ℤ) → sum_at (grown p ps) a ≡ worth a p +ℤ sum_at ps a
sum_at-grown p ps a = by_test (is_zero p) (Decides-int_eq p.by (pos 0)).0
  where
    by_test : (b : Bool) → (b ≡ true → p.by ≡ pos 0) → sum_at (if b then ps else (p ∷ ps)) a ≡ worth a p +ℤ sum_at ps a
    by_test true zero_is = rw (zero_is refl) (omega (arith, ints))
    by_test false zero_is = refl

put_step : (q p : Part) (ps rest : List Part) (a : List ℤ) (b c : Bool) → (c ≡ true → q.variable ≡ p.variable) → sum_at rest a ≡ worth a q +ℤ sum_at ps a → sum_at (if b then (q ∷ p ∷ ps) else (if c then grown (sum_part p q) ps else (p ∷ rest))) a ≡ worth a q +ℤ (worth a p +ℤ sum_at ps a)
put_step q p ps rest a true c same ih = refl
put_step q p ps rest a false true same ih = sum_at-grown (sum_part p q) ps a ∙ joined p.by q.by (number_at a q.variable) (number_at a p.variable) (sum_at ps a) (ap (number_at a) (same refl))
  where
    joined : (b c x y s : ℤ) → x ≡ y → (b +ℤ c) *ℤ x +ℤ s ≡ c *ℤ x +ℤ (b *ℤ y +ℤ s)
    joined b c x y s e = rw e (omega (arith, ints, over_sum b c y))
put_step q p ps rest a false false same ih = omega (arith, ints, ih)

sum_at-put : (q : Part) (ps : List Part) (a : List ℤ) → sum_at (put q ps) a ≡ worth a q +ℤ sum_at ps a
sum_at-put q [] a = refl
sum_at-put q (p ∷ ps) a =
    put_step q p ps (put q ps) a (nat_lt q.variable p.variable) (q.variable == p.variable) (eqb-true q.variable p.variable) (sum_at-put q ps a)

pub sum_at-put_any : (q : Part) (ps : List Part) (a : List ℤ) → sum_at (put_any q ps) a ≡ worth a q +ℤ sum_at ps a
sum_at-put_any q ps a = by_test (is_zero q) (Decides-int_eq q.by (pos 0)).0
  where
    by_test : (b : Bool) → (b ≡ true → q.by ≡ pos 0) → sum_at (if b then ps else put q ps) a ≡ worth a q +ℤ sum_at ps a
    by_test true zero_is = rw (zero_is refl) (omega (arith, ints))
    by_test false zero_is = sum_at-put q ps a

sum_at-gathered_onto : (ps sum : List Part) (a : List ℤ) → sum_at (gathered_onto sum ps) a ≡ sum_at ps a +ℤ sum_at sum a
sum_at-gathered_onto [] sum a = omega (arith, ints)
sum_at-gathered_onto (p ∷ ps) sum a =
    sum_at-gathered_onto ps (put_any p sum) a ∙ omega (arith, ints, sum_at-put_any p sum a)

pub sum_at-gathered : (ps : List Part) (a : List ℤ) → sum_at (gathered ps) a ≡ sum_at ps a
sum_at-gathered ps a = sum_at-gathered_onto ps [] a ∙ omega (arith, ints)

pub sum_at-scaled : (k : ℕ) (ps : List Part) (a : List ℤ) → sum_at (map (scaled k) ps) a ≡ pos k *ℤ sum_at ps a
sum_at-scaled k [] a = omega (arith, ints)
sum_at-scaled k (p ∷ ps) a =
    omega (arith, ints, sum_at-scaled k ps a, regroup (pos k) p.by (number_at a p.variable), times_sum (pos k) (p.by *ℤ number_at a p.variable) (sum_at ps a))

pub sum_at-negative : (ps : List Part) (a : List ℤ) → sum_at (map negative_part ps) a ≡ neg_ℤ (sum_at ps a)
sum_at-negative [] a = refl
sum_at-negative (p ∷ ps) a = omega (arith, ints, sum_at-negative ps a, neg_product p.by (number_at a p.variable))
  where
    neg_product : (x y : ℤ) → neg_ℤ x *ℤ y ≡ neg_ℤ (x *ℤ y)
    neg_product (pos zero) y = omega (arith, ints)
    neg_product (pos (suc n)) y = omega (arith, ints)
    neg_product (negsuc n) y = omega (arith, ints)

pub complement_opposite : (t : Form) (a : List ℤ) → is_true a (complement t) ≡ not (is_true a t)
complement_opposite t a = ap (λ (s : ℤ). int_le s (neg_ℤ t.bound -ℤ pos 1)) (sum_at-negative t.parts a) ∙ opposite_holds (sum_at t.parts a) t.bound

-- a normal form has the solutions of the inequality
pub normal_solutions : (ps : List Part) (bound : ℤ) (t : Form) → IsNormalForm ps bound t → (a : List ℤ) → is_true a t ≡ int_le (sum_at ps a) bound
normal_solutions ps bound t n a =
    ap (λ (b : ℤ). int_le (sum_at t.parts a) b) n.bound_is
    ∙ divided_holds n.by (sum_at t.parts a) bound n.positive
    ∙ ap (λ (s : ℤ). int_le s bound) (sym (sum_at-scaled n.by t.parts a) ∙ ap (λ (qs : List Part). sum_at qs a) n.parts_are ∙ sum_at-gathered ps a)

pub complement_form : (ps qs : List Part) (b x : ℤ) (t : Form) → qs ≡ map negative_part ps → x ≡ neg_ℤ b -ℤ pos 1 → form ps b ≡ t → form qs x ≡ complement t
complement_form ps qs b x t parts bound is =
    ap (λ (rs : List Part). form rs x) parts ∙ ap (λ (y : ℤ). form (map negative_part ps) y) bound ∙ ap complement is

-- an inequality with no variable left
pub constant_solutions : (ps : List Part) (bound : ℤ) → gathered ps ≡ [] → (a : List ℤ) → plain_true a (constant_plain bound) ≡ int_le (sum_at ps a) bound
constant_solutions ps bound none a =
    by_test (int_le (pos 0) bound) ∙ ap (λ (s : ℤ). int_le s bound) (ap (λ (qs : List Part). sum_at qs a) (sym none) ∙ sum_at-gathered ps a)
  where
    by_test : (b : Bool) → plain_true a (if b then Always else Never) ≡ b
    by_test true = refl
    by_test false = refl
