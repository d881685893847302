-- Signs and orders of fractions and their numbers; multiples of multipliers.
use Rattle.std.proofs.Common.{◌≡◌, ℕ, zero, suc, ◌*◌, ◌<◌, ℤ, pos, negsuc, neg_ℤ, ◌+ℤ◌, ◌-ℤ◌, ◌*ℤ◌, ◌≤ℤ◌, ◌<ℤ◌, List, [], ◌∷◌, length, map, ap, sym, ◌∙◌, refl, subst, arith}
use Rattle.std.proofs.lemmas.Int.{ints}
use Rattle.std.proofs.Math.IntN.{*ℤ_comm, *ℤ-zero, zero-*ℤ, pos-*ℤ-pos}
use Rattle.lucy_clauses.proofs.Products.{over_sum, times_sum, regroup}
use Rattle.lucy_clauses.specs.Sums.{Form, number_at, sum_at}
use Rattle.lucy_simplex.specs.Systems.{dot, rows_left, rows_right, NoneNegative, lows_of, highs_of}
use Rattle.lucy_simplex.specs.Tableaus.{solved, constant}
use Rattle.lucy_simplex.proofs.Statements.{MultiplesRefute, SignIsRead, OrderIsRead, PivotKeepsPositive}
use Rattle.lucy_simplex.proofs.Dots.{no_factor, neg_times}
use Rattle.lucy_simplex.proofs.Firsts.{length-times}
use Rattle.lucy_simplex.proofs.Pivots.{solved_length}
use Rattle.lucy_simplex.proofs.Keeping.{not_negative_product, eliminated_at, solved_constant}

some_product : (a b : ℕ) → 0 < a → 0 < b → 0 < a * b
some_product a b p q = grind arith

-- ---- signs

below_zero : (a x : ℤ) (d b : ℕ) → 0 < d → 0 < b → a *ℤ pos d ≡ x *ℤ pos b → a <ℤ pos 0 → x <ℤ pos 0
below_zero (pos k) x d b some some2 e h = absurd (omega (arith, ints))
below_zero (negsuc k) (pos j) d b some some2 e h = absurd (omega (arith, ints, e, some_product (suc k) d (omega arith) some, pos-*ℤ-pos j b))
below_zero (negsuc k) (negsuc j) d b some some2 e h = omega (arith, ints)

pub sign_is_read_lem : SignIsRead
sign_is_read_lem d p x some h = (
  below_zero p.top x d p.bottom some h.positive h.same,
  below_zero x p.top p.bottom d h.positive some (sym h.same),
  λ z. (no_factor p.bottom x h.positive (*ℤ_comm (pos p.bottom) x ∙ sym h.same ∙ ap (λ (y : ℤ). y *ℤ pos d) z ∙ zero-*ℤ (pos d))),
)

-- ---- order

pub le_times : (k : ℕ) (x y : ℤ) → x ≤ℤ y → (x *ℤ pos k) ≤ℤ (y *ℤ pos k)
le_times k x y h =
    let rise : pos 0 ≤ℤ (y -ℤ x) = omega (arith, ints, h) in
    let back : (y -ℤ x) +ℤ x ≡ y = omega (arith, ints) in
    omega (arith, ints, not_negative_product (y -ℤ x) (pos k) rise (omega (arith, ints)), over_sum (y -ℤ x) x (pos k), ap (λ (z : ℤ). z *ℤ pos k) back)

positive_product : (x : ℤ) (k : ℕ) → 0 < k → pos 0 <ℤ x → pos 0 <ℤ (x *ℤ pos k)
positive_product (pos n) k some h = omega (arith, ints, some_product n k (omega (arith, ints)) some, pos-*ℤ-pos n k)
positive_product (negsuc n) k some h = absurd (omega (arith, ints))

pub le_cancel : (k : ℕ) (x y : ℤ) → 0 < k → (x *ℤ pos k) ≤ℤ (y *ℤ pos k) → x ≤ℤ y
le_cancel k x y some h = by_sign (x -ℤ y) refl
  where
    by_sign : (z : ℤ) → x -ℤ y ≡ z → x ≤ℤ y
    by_sign (pos zero) e = omega (arith, ints, e)
    by_sign (pos (suc n)) e =
        let back : (x -ℤ y) +ℤ y ≡ x = omega (arith, ints) in
        absurd (omega (arith, ints, h, positive_product (pos (suc n)) k some (omega (arith, ints)), ap (λ (z : ℤ). z *ℤ pos k) e, over_sum (x -ℤ y) y (pos k), ap (λ (z : ℤ). z *ℤ pos k) back))
    by_sign (negsuc n) e = omega (arith, ints, e)

pub swap_right : (a b c : ℤ) → (a *ℤ b) *ℤ c ≡ (a *ℤ c) *ℤ b
swap_right a b c = regroup a b c ∙ ap (λ (x : ℤ). a *ℤ x) (*ℤ_comm b c) ∙ sym (regroup a c b)

-- (a g) (d e) is (x e) (b g), where a d is x b
turned : (a x : ℤ) (b d g e : ℤ) → a *ℤ d ≡ x *ℤ b → ((a *ℤ g) *ℤ d) *ℤ e ≡ ((x *ℤ e) *ℤ b) *ℤ g
turned a x b d g e h =
    ap (λ (z : ℤ). z *ℤ e) (swap_right a g d ∙ ap (λ (z : ℤ). z *ℤ g) h) ∙ swap_right (x *ℤ b) g e ∙ ap (λ (z : ℤ). z *ℤ g) (swap_right x b e)

order_one : (a x c y : ℤ) (b d g e : ℕ) → 0 < b → 0 < g → a *ℤ pos d ≡ x *ℤ pos b → c *ℤ pos e ≡ y *ℤ pos g → (a *ℤ pos g) ≤ℤ (c *ℤ pos b) → (x *ℤ pos e) ≤ℤ (y *ℤ pos d)
order_one a x c y b d g e some_b some_g h k le =
    le_cancel b (x *ℤ pos e) (y *ℤ pos d) some_b (le_cancel g ((x *ℤ pos e) *ℤ pos b) ((y *ℤ pos d) *ℤ pos b) some_g (
    let left = turned a x (pos b) (pos d) (pos g) (pos e) h in
    let right = turned c y (pos g) (pos e) (pos b) (pos d) k in
    let grown = le_times e ((a *ℤ pos g) *ℤ pos d) ((c *ℤ pos b) *ℤ pos d) (le_times d (a *ℤ pos g) (c *ℤ pos b) le) in
    omega (arith, ints, grown, left, right, swap_right (c *ℤ pos b) (pos d) (pos e), swap_right (y *ℤ pos d) (pos g) (pos b))))

pub order_is_read_lem : OrderIsRead
order_is_read_lem d e p r x y some_d some_e hp hr = (
  order_one p.top x r.top y p.bottom d r.bottom e hp.positive hr.positive hp.same hr.same,
  order_one x p.top y r.top d p.bottom e r.bottom some_d some_e (sym hp.same) (sym hr.same),
)

-- ---- a constant above 0

positive_constant : (d : ℕ) (f c cs fq : ℤ) → 0 < d → pos 0 <ℤ c → pos 0 ≤ℤ cs → neg_ℤ fq ≡ pos d → (f <ℤ pos 0 → (cs *ℤ neg_ℤ f) <ℤ (c *ℤ neg_ℤ fq)) → pos 0 <ℤ (pos d *ℤ c +ℤ f *ℤ cs)
positive_constant d (pos n) c cs fq some hc hs is less = omega (arith, ints, positive_product c d some hc, *ℤ_comm c (pos d), not_negative_product (pos n) cs (omega (arith, ints)) hs)
positive_constant d (negsuc n) c cs fq some hc hs is less =
    let k : (cs *ℤ neg_ℤ (negsuc n)) <ℤ (c *ℤ neg_ℤ fq) = less (omega (arith, ints)) in
    omega (arith, ints, k, ap (λ (x : ℤ). c *ℤ x) is, *ℤ_comm (pos d) c, *ℤ_comm cs (neg_ℤ (negsuc n)), neg_times (negsuc n) cs)

pub pivot_keeps_positive_lem : PivotKeepsPositive
pivot_keeps_positive_lem n place e i q p qs t feasible is there ne binds above less =
    let f = number_at q.numbers e in
    let sc = solved_constant e f q.numbers binds.falls in
    let below : 0 < (solved e q).below = omega (arith, ints, sc.1, binds.falls) in
    let same : length p.numbers ≡ length (solved e q).numbers = (t.each i p there).length_is ∙ sym (solved_length e f q.numbers ∙ (t.each place q is).length_is) in
    subst (λ (x : ℤ). pos 0 <ℤ x) (sym (eliminated_at (solved e q) e 0 p same))
    (positive_constant (solved e q).below (number_at p.numbers e) (constant p) (constant (solved e q)) f below above
    (subst (λ (x : ℤ). pos 0 ≤ℤ x) (sym sc.0) (feasible.each place q is)) sc.1
    (λ h. subst (λ (x : ℤ). (x *ℤ neg_ℤ (number_at p.numbers e)) <ℤ (constant p *ℤ neg_ℤ f)) (sym sc.0) (less h)))

-- ---- multiples

abbrev times : ℕ → List ℤ → List ℤ
times d xs = map (λ (x : ℤ). pos d *ℤ x) xs

rows_left-times : (d : ℕ) (rows : List Form) (ms a : List ℤ) → rows_left rows (times d ms) a ≡ pos d *ℤ rows_left rows ms a
rows_left-times d [] ms a = sym (*ℤ-zero (pos d))
rows_left-times d (r ∷ rs) [] a = sym (*ℤ-zero (pos d))
rows_left-times d (r ∷ rs) (m ∷ ms) a = omega (arith, ints, rows_left-times d rs ms a, regroup (pos d) m (sum_at r.parts a), times_sum (pos d) (m *ℤ sum_at r.parts a) (rows_left rs ms a))

rows_right-times : (d : ℕ) (rows : List Form) (ms : List ℤ) → rows_right rows (times d ms) ≡ pos d *ℤ rows_right rows ms
rows_right-times d [] ms = sym (*ℤ-zero (pos d))
rows_right-times d (r ∷ rs) [] = sym (*ℤ-zero (pos d))
rows_right-times d (r ∷ rs) (m ∷ ms) = omega (arith, ints, rows_right-times d rs ms, regroup (pos d) m r.bound, times_sum (pos d) (m *ℤ r.bound) (rows_right rs ms))

pub times-dot : (d : ℕ) (ms a : List ℤ) → dot (times d ms) a ≡ pos d *ℤ dot ms a
times-dot d [] a = sym (*ℤ-zero (pos d))
times-dot d (m ∷ ms) [] = sym (*ℤ-zero (pos d))
times-dot d (m ∷ ms) (x ∷ a) = omega (arith, ints, times-dot d ms a, regroup (pos d) m x, times_sum (pos d) (m *ℤ x) (dot ms a))

signs_back : (d : ℕ) (ms : List ℤ) → 0 < d → NoneNegative (times d ms) → NoneNegative ms
signs_back d [] some h = tt
signs_back d (m ∷ ms) some h = (le_cancel d (pos 0) m some (let k = h.0 in omega (arith, ints, k, *ℤ_comm (pos d) m, zero-*ℤ (pos d))), signs_back d ms some h.1)

spread : (d r h l : ℤ) → d *ℤ r +ℤ (d *ℤ h -ℤ d *ℤ l) ≡ d *ℤ (r +ℤ (h -ℤ l))
spread d r h l =
    let back : (h -ℤ l) +ℤ l ≡ h = omega (arith, ints) in
    omega (arith, ints, times_sum d r (h -ℤ l), times_sum d (h -ℤ l) l, ap (λ (z : ℤ). d *ℤ z) back)

below_back : (d : ℕ) (x : ℤ) → (pos d *ℤ x) <ℤ pos 0 → x <ℤ pos 0
below_back d (pos n) h = absurd (omega (arith, ints, h, pos-*ℤ-pos d n))
below_back d (negsuc n) h = omega (arith, ints)

pub multiples_refute_lem : MultiplesRefute
multiples_refute_lem d rows bounds ms lows highs some f = record {
  rows_count = sym (length-times (pos d) ms) ∙ f.rows_count;
  lows_count = sym (length-times (pos d) lows) ∙ f.lows_count;
  highs_count = sym (length-times (pos d) highs) ∙ f.highs_count;
  rows_sign = signs_back d ms some f.rows_sign;
  lows_sign = signs_back d lows some f.lows_sign;
  highs_sign = signs_back d highs some f.highs_sign;
  left = λ a h. no_factor d (rows_left rows ms a +ℤ (dot highs a -ℤ dot lows a)) some
      (omega (arith, ints, f.left a h, rows_left-times d rows ms a, times-dot d highs a, times-dot d lows a, spread (pos d) (rows_left rows ms a) (dot highs a) (dot lows a)));
  right = below_back d (rows_right rows ms +ℤ (dot highs (highs_of bounds) -ℤ dot lows (lows_of bounds)))
      (omega (arith, ints, f.right, rows_right-times d rows ms, times-dot d highs (highs_of bounds), times-dot d lows (lows_of bounds), spread (pos d) (rows_right rows ms) (dot highs (highs_of bounds)) (dot lows (lows_of bounds))));
}
