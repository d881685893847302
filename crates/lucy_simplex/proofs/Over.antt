-- Fractions as integers over a denominator.
use Rattle.std.proofs.Common.{◌≡◌, ◌≢◌, ◌⊎◌, inl, inr, ℕ, zero, suc, ◌*◌, ◌<◌, ℤ, pos, negsuc, neg_ℤ, ◌+ℤ◌, ◌-ℤ◌, ◌*ℤ◌, List, [], ◌∷◌, map, ap, sym, ◌∙◌, refl, arith}
use Rattle.std.specs.List.{AllZip}
use Rattle.std.proofs.lemmas.Int.{ints}
use Rattle.std.proofs.Math.IntN.{*ℤ_comm, zero-*ℤ, pos-*ℤ-pos}
use Rattle.lucy_clauses.proofs.Products.{over_sum, times_sum, regroup}
use Rattle.lucy_fraction.specs.Rationals.{Ratio, ratio, IsSame, IsReducedForm, IsTooWide, sum, product, quotient, opposite, inverse, inverse_by}
use Rattle.lucy_fraction.proofs.Ratios.{product_same, sum_same, quotient_times}
use Rattle.lucy_simplex.specs.Steps.{IsDivided, IsAdded, IsAddedTooWide, IsOver, AreNumbers}
use Rattle.lucy_clauses.specs.Sums.{number_at}
use Rattle.lucy_simplex.specs.Tableaus.{solved_by}
use Rattle.lucy_simplex.proofs.Keeping.{number_at-negative}
use Rattle.lucy_simplex.proofs.Statements.{DividedIsSolved, AddedIsCombined}
use Rattle.lucy_simplex.proofs.Dots.{neg_times, no_factor}

some_product : (a b : ℕ) → 0 < a → 0 < b → 0 < a * b
some_product a b p q = grind arith

pub cancel : (k : ℕ) (x y : ℤ) → 0 < k → x *ℤ pos k ≡ y *ℤ pos k → x ≡ y
cancel k x y some e =
    let none : pos k *ℤ (x -ℤ y) ≡ pos 0 =
    (let back : (x -ℤ y) +ℤ y ≡ x = omega (arith, ints) in
    omega (arith, ints, e, *ℤ_comm x (pos k), *ℤ_comm y (pos k), times_sum (pos k) (x -ℤ y) y, ap (λ (z : ℤ). pos k *ℤ z) back)) in
    let zero_is = no_factor k (x -ℤ y) some none in
    omega (arith, ints, zero_is)

pub swap_right : (a b c : ℤ) → (a *ℤ b) *ℤ c ≡ (a *ℤ c) *ℤ b
swap_right a b c = regroup a b c ∙ ap (λ (x : ℤ). a *ℤ x) (*ℤ_comm b c) ∙ sym (regroup a c b)

swap_inner : (a b c d : ℤ) → (a *ℤ b) *ℤ (c *ℤ d) ≡ (a *ℤ c) *ℤ (b *ℤ d)
swap_inner a b c d = sym (regroup (a *ℤ b) c d) ∙ ap (λ (x : ℤ). x *ℤ d) (swap_right a b c) ∙ regroup (a *ℤ c) b d

-- a / r is t / q, and t / q is x / n: then a / r is x / n
crossed : (a t x n r : ℤ) (q : ℕ) → 0 < q → a *ℤ pos q ≡ t *ℤ r → t *ℤ n ≡ x *ℤ pos q → a *ℤ n ≡ x *ℤ r
crossed a t x n r q some h k =
    cancel q (a *ℤ n) (x *ℤ r) some (swap_right a n (pos q) ∙ ap (λ (y : ℤ). y *ℤ n) h ∙ swap_right t r n ∙ ap (λ (y : ℤ). y *ℤ r) k ∙ swap_right x (pos q) r)

pub same_trans : (p q r : Ratio) → 0 < q.bottom → IsSame p q → IsSame q r → IsSame p r
same_trans p q r some h k = crossed p.top q.top r.top (pos r.bottom) (pos p.bottom) q.bottom some h k

-- t / q times g / f is p / b; g / f is n / d, p / b is x / d
quotient_is : (t g n x p : ℤ) (q f b d : ℕ) → 0 < f → 0 < b → (t *ℤ g) *ℤ pos b ≡ p *ℤ (pos q *ℤ pos f) → g *ℤ pos d ≡ n *ℤ pos f → p *ℤ pos d ≡ x *ℤ pos b → t *ℤ n ≡ x *ℤ pos q
quotient_is t g n x p q f b d some_f some_b h1 h2 h3 =
    let F = pos f in
    let B = pos b in
    let D = pos d in
    let Q = pos q in
    cancel b (t *ℤ n) (x *ℤ Q) some_b (cancel f ((t *ℤ n) *ℤ B) ((x *ℤ Q) *ℤ B) some_f (
    swap_right (t *ℤ n) B F
    ∙ ap (λ (y : ℤ). y *ℤ B) (regroup t n F ∙ ap (λ (y : ℤ). t *ℤ y) (sym h2) ∙ sym (regroup t g D))
    ∙ swap_right (t *ℤ g) D B
    ∙ ap (λ (y : ℤ). y *ℤ D) h1
    ∙ swap_right p (Q *ℤ F) D
    ∙ ap (λ (y : ℤ). y *ℤ (Q *ℤ F)) h3
    ∙ swap_inner x B Q F
    ∙ sym (regroup (x *ℤ Q) B F)))

top_not_zero : (d : ℕ) (f : Ratio) (x : ℤ) → x ≢ pos 0 → 0 < f.bottom → IsSame f (ratio x d) → f.top ≢ pos 0
top_not_zero d f x some positive same z =
    let none : pos f.bottom *ℤ x ≡ pos 0 = *ℤ_comm (pos f.bottom) x ∙ sym same ∙ ap (λ (y : ℤ). y *ℤ pos d) z ∙ zero-*ℤ (pos d) in
    some (no_factor f.bottom x positive none)

inverse_bottom : (x : ℤ) (d : ℕ) → x ≢ pos 0 → 0 < (inverse_by x d).bottom
inverse_bottom (pos zero) d h = absurd (h refl)
inverse_bottom (pos (suc n)) d h = omega arith
inverse_bottom (negsuc n) d h = omega arith

neg_not_zero : (x : ℤ) → x ≢ pos 0 → neg_ℤ x ≢ pos 0
neg_not_zero x h e =
    let back : x ≡ pos 0 = omega (arith, ints, e) in
    h back

-- the quotient of p and -f: its top times -x is the numerator of p
pub quotient_cross : (d : ℕ) (x y : ℤ) (f p : Ratio) → x ≢ pos 0 → IsOver d f x → IsOver d p y → (0 < (quotient p (opposite f)).bottom) × ((quotient p (opposite f)).top *ℤ neg_ℤ x ≡ y *ℤ pos (quotient p (opposite f)).bottom)
quotient_cross d x y f p nonzero hf hp =
    let g = opposite f in
    let t = quotient p g in
    let g_top = neg_not_zero f.top (top_not_zero d f x nonzero hf.positive hf.same) in
    let h1 : (t.top *ℤ g.top) *ℤ pos p.bottom ≡ p.top *ℤ (pos t.bottom *ℤ pos f.bottom) =
    quotient_times p g g_top ∙ ap (λ (z : ℤ). p.top *ℤ z) (sym (pos-*ℤ-pos t.bottom f.bottom)) in
    let h2 : g.top *ℤ pos d ≡ neg_ℤ x *ℤ pos f.bottom = neg_times f.top (pos d) ∙ ap neg_ℤ hf.same ∙ sym (neg_times x (pos f.bottom)) in
    (some_product p.bottom (inverse g).bottom hp.positive (inverse_bottom g.top f.bottom g_top), quotient_is t.top g.top (neg_ℤ x) y p.top t.bottom f.bottom p.bottom d hf.positive hp.positive h1 h2 hp.same)

-- the reduced quotient r of p and -f: r times -x is the numerator of p
pub divided_cross : (d : ℕ) (x y : ℤ) (f p r : Ratio) → 0 < d → x ≢ pos 0 → IsOver d f x → IsOver d p y → IsDivided (opposite f) r p → r.top *ℤ neg_ℤ x ≡ y *ℤ pos r.bottom
divided_cross d x y f p r some nonzero hf hp h =
    let t = quotient p (opposite f) in
    let c = quotient_cross d x y f p nonzero hf hp in
    crossed r.top t.top y (neg_ℤ x) (pos r.bottom) t.bottom c.0 h.same c.1

-- a ratio is too wide where an equal one is
pub wide_same : (p q : Ratio) → 0 < p.bottom → IsSame p q → IsTooWide p → IsTooWide q
wide_same p q some same h = record {
  form = h.form;
  form_is = record { reduced = h.form_is.reduced; same = same_trans h.form p q some h.form_is.same same };
  wide = h.wide;
}

-- a quotient by -f that is too wide, where f is of a number above or below 0
pub wide_quotient : (d e : ℕ) (x y : ℤ) (f p : Ratio) (xs : List ℤ) (j : ℕ) → x ≢ pos 0 → IsOver d f x → IsOver d p y → number_at xs j ≡ y → IsTooWide (quotient p (opposite f))
    → IsTooWide (ratio (number_at (solved_by e x xs).numbers j) (solved_by e x xs).below)
wide_quotient d e (pos n) y f p xs j nonzero hf hp at h =
    let c = quotient_cross d (pos n) y f p nonzero hf hp in
    let t = quotient p (opposite f) in
    wide_same t (ratio (number_at (map neg_ℤ xs) j) n) c.0 (turned t.top (pos n) y (pos t.bottom) (number_at (map neg_ℤ xs) j) (number_at-negative xs j ∙ ap neg_ℤ at) c.1) h
  where
    turned : (a n x b z : ℤ) → z ≡ neg_ℤ x → a *ℤ neg_ℤ n ≡ x *ℤ b → a *ℤ n ≡ z *ℤ b
    turned a n x b z k e = rw k (omega (arith, ints, e, *ℤ_comm a (neg_ℤ n), neg_times n a, *ℤ_comm n a, neg_times x b))
wide_quotient d e (negsuc n) y f p xs j nonzero hf hp at h =
    let c = quotient_cross d (negsuc n) y f p nonzero hf hp in
    let t = quotient p (opposite f) in
    wide_same t (ratio (number_at xs j) (suc n)) c.0 (c.1 ∙ ap (λ (z : ℤ). z *ℤ pos t.bottom) (sym at)) h

all_divided_pos : (d n : ℕ) (f : Ratio) (ps rs : List Ratio) (xs : List ℤ) → 0 < d → pos n ≢ pos 0 → IsOver d f (pos n) → AreNumbers d ps xs → AllZip (IsDivided (opposite f)) rs ps → AreNumbers n rs (map neg_ℤ xs)
all_divided_pos d n f [] [] [] some nonzero hf h k = tt
all_divided_pos d n f [] [] (x ∷ xs) some nonzero hf h k = absurd h
all_divided_pos d n f [] (r ∷ rs) xs some nonzero hf h k = absurd k
all_divided_pos d n f (p ∷ ps) rs [] some nonzero hf h k = absurd h
all_divided_pos d n f (p ∷ ps) [] (x ∷ xs) some nonzero hf h k = absurd k
all_divided_pos d n f (p ∷ ps) (r ∷ rs) (x ∷ xs) some nonzero hf h k =
    let c = divided_cross d (pos n) x f p r some nonzero hf h.0 k.0 in
    (record { positive = k.0.reduced.positive; same = turned r.top (pos n) x (pos r.bottom) c }, all_divided_pos d n f ps rs xs some nonzero hf h.1 k.1)
  where
    turned : (a n x b : ℤ) → a *ℤ neg_ℤ n ≡ x *ℤ b → a *ℤ n ≡ neg_ℤ x *ℤ b
    turned a n x b e = omega (arith, ints, e, *ℤ_comm a (neg_ℤ n), neg_times n a, *ℤ_comm n a, neg_times x b)

all_divided_neg : (d n : ℕ) (f : Ratio) (ps rs : List Ratio) (xs : List ℤ) → 0 < d → negsuc n ≢ pos 0 → IsOver d f (negsuc n) → AreNumbers d ps xs → AllZip (IsDivided (opposite f)) rs ps → AreNumbers (suc n) rs xs
all_divided_neg d n f [] [] [] some nonzero hf h k = tt
all_divided_neg d n f [] [] (x ∷ xs) some nonzero hf h k = absurd h
all_divided_neg d n f [] (r ∷ rs) xs some nonzero hf h k = absurd k
all_divided_neg d n f (p ∷ ps) rs [] some nonzero hf h k = absurd h
all_divided_neg d n f (p ∷ ps) [] (x ∷ xs) some nonzero hf h k = absurd k
all_divided_neg d n f (p ∷ ps) (r ∷ rs) (x ∷ xs) some nonzero hf h k =
    (record { positive = k.0.reduced.positive; same = divided_cross d (negsuc n) x f p r some nonzero hf h.0 k.0 }, all_divided_neg d n f ps rs xs some nonzero hf h.1 k.1)

pub divided_is_solved_lem : DividedIsSolved
divided_is_solved_lem d e (pos n) f ps rs xs some nonzero hf h k = all_divided_pos d n f ps rs xs some nonzero hf h k
divided_is_solved_lem d e (negsuc n) f ps rs xs some nonzero hf h k = all_divided_neg d n f ps rs xs some nonzero hf h k

-- f times p, and a number with it added, as numbers over one denominator
product_over : (b d : ℕ) (fx y : ℤ) (f p : Ratio) → IsOver b f fx → IsOver d p y → IsSame (product f p) (ratio (fx *ℤ y) (b * d))
product_over b d fx y f p hf hp = product_same f (ratio fx b) p (ratio y d) hf.same hp.same

sum_over : (b d : ℕ) (x z : ℤ) (a more : Ratio) → 0 < b → 0 < d → IsOver b a x → IsSame more (ratio z (b * d)) → IsSame (sum a more) (ratio (pos d *ℤ x +ℤ z) (b * d))
sum_over b d x z a more some_b some_d ha more_is =
    let whole = ratio (x *ℤ pos (b * d) +ℤ z *ℤ pos b) (b * (b * d)) in
    same_trans (sum a more) whole (ratio (pos d *ℤ x +ℤ z) (b * d)) (some_product b (b * d) some_b (some_product b d some_b some_d)) (sum_same a (ratio x b) more (ratio z (b * d)) ha.same more_is) (shortened x z b d)
  where
    shortened : (x z : ℤ) (b d : ℕ) → (x *ℤ pos (b * d) +ℤ z *ℤ pos b) *ℤ pos (b * d) ≡ (pos d *ℤ x +ℤ z) *ℤ pos (b * (b * d))
    shortened x z b d =
        let top : x *ℤ pos (b * d) +ℤ z *ℤ pos b ≡ (pos d *ℤ x +ℤ z) *ℤ pos b =
        omega (arith, ints, over_sum (pos d *ℤ x) z (pos b), ap (λ (w : ℤ). x *ℤ w) (sym (pos-*ℤ-pos b d)), swap_left x (pos b) (pos d)) in
        ap (λ (w : ℤ). w *ℤ pos (b * d)) top ∙ regroup (pos d *ℤ x +ℤ z) (pos b) (pos (b * d)) ∙ ap (λ (w : ℤ). (pos d *ℤ x +ℤ z) *ℤ w) (pos-*ℤ-pos b (b * d))
      where
        swap_left : (x b d : ℤ) → x *ℤ (b *ℤ d) ≡ (d *ℤ x) *ℤ b
        swap_left x b d = ap (λ (w : ℤ). x *ℤ w) (*ℤ_comm b d) ∙ sym (regroup x d b) ∙ ap (λ (w : ℤ). w *ℤ b) (*ℤ_comm x d)

more_over : (b d : ℕ) (fx y : ℤ) (f p more : Ratio) → IsOver b f fx → IsOver d p y → IsReducedForm more (product f p) → IsSame more (ratio (fx *ℤ y) (b * d))
more_over b d fx y f p more hf hp form =
    same_trans more (product f p) (ratio (fx *ℤ y) (b * d)) (some_product f.bottom p.bottom hf.positive hp.positive) form.same (product_over b d fx y f p hf hp)

added_over : (b d : ℕ) (fx x y : ℤ) (f a p r : Ratio) → 0 < b → 0 < d → IsOver b f fx → IsOver b a x → IsOver d p y → IsAdded f a p r → IsOver (b * d) r (pos d *ℤ x +ℤ fx *ℤ y)
added_over b d fx x y f a p r some_b some_d hf ha hp h = record {
  positive = h.sum_is.reduced.positive;
  same = same_trans r (sum a h.more) (ratio (pos d *ℤ x +ℤ fx *ℤ y) (b * d)) (some_product a.bottom h.more.bottom ha.positive h.product_is.reduced.positive) h.sum_is.same
      (sum_over b d x (fx *ℤ y) a h.more some_b some_d ha (more_over b d fx y f p h.more hf hp h.product_is));
}

-- a product or a sum that is too wide
pub wide_added : (b d : ℕ) (fx x y : ℤ) (f a p : Ratio) → 0 < b → 0 < d → IsOver b f fx → IsOver b a x → IsOver d p y → IsAddedTooWide f a p → IsTooWide (ratio (fx *ℤ y) (b * d)) ⊎ IsTooWide (ratio (pos d *ℤ x +ℤ fx *ℤ y) (b * d))
wide_added b d fx x y f a p some_b some_d hf ha hp (inl h) =
    inl (wide_same (product f p) (ratio (fx *ℤ y) (b * d)) (some_product f.bottom p.bottom hf.positive hp.positive) (product_over b d fx y f p hf hp) h)
wide_added b d fx x y f a p some_b some_d hf ha hp (inr h) =
    inr (wide_same (sum a h.more) (ratio (pos d *ℤ x +ℤ fx *ℤ y) (b * d)) (some_product a.bottom h.more.bottom ha.positive h.product_is.reduced.positive)
    (sum_over b d x (fx *ℤ y) a h.more some_b some_d ha (more_over b d fx y f p h.more hf hp h.product_is)) h.wide)

pub added_is_combined_lem : AddedIsCombined
added_is_combined_lem b d x f [] [] [] [] [] some_b some_d hf hn hp h = tt
added_is_combined_lem b d x f (n ∷ ns) (p ∷ ps) (r ∷ rs) (u ∷ us) (v ∷ vs) some_b some_d hf hn hp h =
    (added_over b d x u v f n p r some_b some_d hf hn.0 hp.0 h.0, added_is_combined_lem b d x f ns ps rs us vs some_b some_d hf hn.1 hp.1 h.1)
added_is_combined_lem b d x f [] ps rs (u ∷ us) ys some_b some_d hf hn hp h = absurd hn
added_is_combined_lem b d x f (n ∷ ns) ps rs [] ys some_b some_d hf hn hp h = absurd hn
added_is_combined_lem b d x f ns [] rs xs (v ∷ vs) some_b some_d hf hn hp h = absurd hp
added_is_combined_lem b d x f ns (p ∷ ps) rs xs [] some_b some_d hf hn hp h = absurd hp
added_is_combined_lem b d x f [] [] (r ∷ rs) [] [] some_b some_d hf hn hp h = absurd h
added_is_combined_lem b d x f (n ∷ ns) [] rs (u ∷ us) [] some_b some_d hf hn hp h = absurd h
added_is_combined_lem b d x f [] (p ∷ ps) rs [] (v ∷ vs) some_b some_d hf hn hp h = absurd h
added_is_combined_lem b d x f (n ∷ ns) (p ∷ ps) [] (u ∷ us) (v ∷ vs) some_b some_d hf hn hp h = absurd h
