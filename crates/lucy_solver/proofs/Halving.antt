-- Boxes and their halves.
use Rattle.std.proofs.Common.{◌≡◌, Bool, true, false, ℕ, ◌+◌, ◌*◌, ◌<◌, ◌≤◌, ◌^◌, max, zero, suc, ℤ, pos, negsuc, neg_ℤ, ◌-ℤ◌, ◌+ℤ◌, ◌*ℤ◌, ◌≤ℤ◌, ◌<ℤ◌, int_le, int_lt, nat_le, nat_lt, List, [], ◌∷◌, ◌++◌, map, Option, Some, if◌then◌else◌, length, slice_get, slice_set, refl, sym, ◌∙◌, ap, subst, arith}
use Rattle.std.proofs.lemmas.Int.{ints, unsigned_abs-mul}
use Rattle.std.proofs.lemmas.Option.{get_or_from_slice_get}
use Rattle.std.proofs.Math.Nat.{mul-le-mul_left}
use Rattle.std.specs.Prelude.{unsigned_abs}
use Rattle.std.specs.List.{list_all}
use Rattle.std.specs.Option.{option_map}
use Rattle.std.proofs.lemmas.Bool.Decides.{nat_tests}
use Rattle.lucy_clauses.specs.declared.parts.Part.{Part}
use Rattle.lucy_clauses.specs.declared.formulas.Clause.{Clause}
use Rattle.lucy_clauses.specs.declared.formulas.Range.{Range}
use Rattle.lucy_clauses.specs.declared.lines.Ref.TheVariants.{Negated}
use Rattle.lucy_clauses.specs.Sums.{Form, complement}
use Rattle.lucy_clauses.specs.Formulas.{names_below, range_size, size_at, weight, is_narrow_atom}
use Rattle.lucy_clauses.specs.Lines.{form_of_ref, one_variable}
use Rattle.lucy_clauses.proofs.Uniqueness.{twice}
use Rattle.lucy_solver.specs.declared.boxes.Bound.{Bound}
use Rattle.lucy_solver.specs.Boxes.{end_of, reach, reaches, is_fit, all_fit, IsInside, IsBound, IsBox}
use Rattle.lucy_solver.specs.Spans.{width, span, IsHigh, IsLow, whole, whole_bound}
use Rattle.lucy_units.proofs.Lists.{both}
use Rattle.lucy_solver.proofs.Boxing.{place_there}
use Rattle.lucy_solver.proofs.References.{form_of_ref-more, last_place}
use Rattle.lucy_solver.proofs.Pointing.{there_too}

-- ---- the measure
span_falls : (bs : List Bound) (v : ℕ) (b : Bound) → v < length bs → ((old : Bound) → slice_get bs v ≡ Some old → width b < width old) → span (slice_set bs v b) < span bs
span_falls [] v b below h = absurd (omega arith)
span_falls (c ∷ bs) zero b below h =
    let first : width b < width c = h c refl in
    omega (arith, first)
span_falls (c ∷ bs) (suc v) b below h =
    let rest : span (slice_set bs v b) < span bs = span_falls bs v b (omega arith) h in
    omega (arith, rest)

narrower_high : (lo hi middle : ℤ) → lo ≤ℤ middle → middle <ℤ hi → unsigned_abs (middle -ℤ lo) < unsigned_abs (hi -ℤ lo)
narrower_high lo hi middle p q = grind (arith, ints, p, q)

narrower_low : (lo hi middle : ℤ) → lo ≤ℤ middle → middle <ℤ hi → unsigned_abs (hi -ℤ (middle +ℤ pos 1)) < unsigned_abs (hi -ℤ lo)
narrower_low lo hi middle p q = grind (arith, ints, p, q)

-- ---- more decisions
pub bound_more : (ranges : List Range) (ds more : List Form) (v : ℕ) (b : Bound) → IsBound ranges ds v b → IsBound ranges (ds ++ more) v b
bound_more ranges ds more v b i =
    record {
      low = form_of_ref-more ds more ranges b.low (one_variable v (negsuc 0) (neg_ℤ b.lo)) i.low;
      high = form_of_ref-more ds more ranges b.high (one_variable v (pos 1) b.hi) i.high;
      inside = i.inside;
      low_fits = i.low_fits;
      high_fits = i.high_fits;
    }

pub box_more : (ranges : List Range) (ds more : List Form) (bs : List Bound) → IsBox ranges ds bs → IsBox ranges (ds ++ more) bs
box_more ranges ds more bs box =
    record { count = box.count; each = λ v b e. bound_more ranges ds more v b (box.each v b e) }

-- ---- another bound at a place
length_set : (bs : List Bound) (v : ℕ) (b : Bound) → length (slice_set bs v b) ≡ length bs
length_set [] v b = refl
length_set (c ∷ bs) zero b = refl
length_set (c ∷ bs) (suc v) b = ap suc (length_set bs v b)

each_set : (P : ℕ → Bound → Type 0) (bs : List Bound) (v : ℕ) (b : Bound) → P v b → ((w : ℕ) (c : Bound) → slice_get bs w ≡ Some c → P w c) → (w : ℕ) (c : Bound) → slice_get (slice_set bs v b) w ≡ Some c → P w c
each_set P [] v b p h w c e = absurd (cc)
each_set P (d ∷ bs) zero b p h zero c e =
    let same : b ≡ c = cc in
    subst (P 0) same p
each_set P (d ∷ bs) zero b p h (suc w) c e = h (suc w) c e
each_set P (d ∷ bs) (suc v) b p h zero c e = h 0 c e
each_set P (d ∷ bs) (suc v) b p h (suc w) c e = each_set (λ (n : ℕ) (c : Bound). P (suc n) c) bs v b p (λ w c e. h (suc w) c e) w c e

pub box_set : (ranges : List Range) (ds : List Form) (bs : List Bound) (v : ℕ) (b : Bound) → IsBox ranges ds bs → IsBound ranges ds v b → IsBox ranges ds (slice_set bs v b)
box_set ranges ds bs v b box i =
    record { count = length_set bs v b ∙ box.count; each = each_set (IsBound ranges ds) bs v b i box.each }

-- ---- the halves
decided_form : (ranges : List Range) (ds : List Form) (t : Form) (place : ℕ) → place ≡ length ds → form_of_ref (map complement (ds ++ t ∷ [])) ranges [] (Negated place) ≡ Some t
decided_form ranges ds t place at = rw at (ap (option_map complement) (last_place ds t) ∙ ap (λ (u : Form). let r : Option Form = Some u in r) (twice t))

small_place : (place : ℕ) → place < 2 ^ 32 → nat_lt place (2 ^ 32) ≡ true
small_place place h = grind (arith, nat_tests, h)

pub high_bound : (ranges : List Range) (ds : List Form) (v place : ℕ) (middle : ℤ) (old new : Bound) → IsBound ranges ds v old → place < 2 ^ 32 → place ≡ length ds → old.lo ≤ℤ middle → middle <ℤ old.hi → IsHigh place middle old new → IsBound ranges (ds ++ one_variable v (pos 1) middle ∷ []) v new
high_bound ranges ds v place middle old new i small at low high h =
    let more = bound_more ranges ds (one_variable v (pos 1) middle ∷ []) v old i in
    record {
      low = rw (h.0, h.2) more.low;
      high = rw (h.1, h.3) (decided_form ranges ds (one_variable v (pos 1) middle) place at);
      inside = λ r e. (let j = i.inside r e in record { low = rw h.0 j.low; some = rw (h.0, h.1) low; high = rw h.1 (between middle old.hi r.hi high j.high) });
      low_fits = rw h.2 i.low_fits;
      high_fits = rw h.3 (small_place place small);
    }
  where
    between : (a b c : ℤ) → a <ℤ b → b ≤ℤ c → a ≤ℤ c
    between a b c p q = omega (arith, ints, p, q)

pub low_bound : (ranges : List Range) (ds : List Form) (v place : ℕ) (middle : ℤ) (old new : Bound) → IsBound ranges ds v old → place < 2 ^ 32 → place ≡ length ds → old.lo ≤ℤ middle → middle <ℤ old.hi → IsLow place middle old new → IsBound ranges (ds ++ complement (one_variable v (pos 1) middle) ∷ []) v new
low_bound ranges ds v place middle old new i small at low high h =
    let more = bound_more ranges ds (complement (one_variable v (pos 1) middle) ∷ []) v old i in
    let below : neg_ℤ (middle +ℤ pos 1) ≡ neg_ℤ middle -ℤ pos 1 = omega (arith, ints) in
    record {
      low = rw (h.0, h.2, below) (decided_form ranges ds (complement (one_variable v (pos 1) middle)) place at);
      high = rw (h.1, h.3) more.high;
      inside = λ r e. (let j = i.inside r e in record { low = rw h.0 (later r.lo old.lo middle j.low low); some = rw (h.0, h.1) (next middle old.hi high); high = rw h.1 j.high });
      low_fits = rw h.2 (small_place place small);
      high_fits = rw h.3 i.high_fits;
    }
  where
    later : (a b c : ℤ) → a ≤ℤ b → b ≤ℤ c → a ≤ℤ (c +ℤ pos 1)
    later a b c p q = omega (arith, ints, p, q)

    next : (a b : ℤ) → a <ℤ b → (a +ℤ pos 1) ≤ℤ b
    next a b p = omega (arith, ints, p)

pub high_width : (place : ℕ) (middle : ℤ) (old new : Bound) → IsHigh place middle old new → old.lo ≤ℤ middle → middle <ℤ old.hi → width new < width old
high_width place middle old new h low high = rw (h.0, h.1) (narrower_high old.lo old.hi middle low high)

pub low_width : (place : ℕ) (middle : ℤ) (old new : Bound) → IsLow place middle old new → old.lo ≤ℤ middle → middle <ℤ old.hi → width new < width old
low_width place middle old new h low high = rw (h.0, h.1) (narrower_low old.lo old.hi middle low high)

-- ---- the whole box
whole_length : (i : ℕ) (rs : List Range) → length (whole i rs) ≡ length rs
whole_length i [] = refl
whole_length i (r ∷ rs) = ap suc (whole_length (i + 1) rs)

whole_at : (i : ℕ) (rs : List Range) (v : ℕ) (b : Bound) → slice_get (whole i rs) v ≡ Some b → (r : Range) × (slice_get rs v ≡ Some r) × (b ≡ whole_bound (i + v) r)
whole_at i [] v b e = absurd (cc)
whole_at i (r ∷ rs) zero b e = (r, refl, first (cc))
  where
    first : whole_bound i r ≡ b → b ≡ whole_bound (i + 0) r
    first e =
        let same : i + 0 ≡ i = omega arith in
        rw same (sym e)
whole_at i (r ∷ rs) (suc v) b e =
    let next = whole_at (i + 1) rs v b e in
    let same : i + suc v ≡ (i + 1) + v = omega arith in
    (next.0, next.1, rw same next.2)

range_all : (rs : List Range) (v : ℕ) (r : Range) → list_all (λ (r : Range). int_le r.lo r.hi) rs ≡ true → slice_get rs v ≡ Some r → r.lo ≤ℤ r.hi
range_all [] v r h e = absurd (cc)
range_all (q ∷ rs) zero r h e =
    let same : q ≡ r = cc in
    subst (λ (r : Range). r.lo ≤ℤ r.hi) same (at_most q.lo q.hi (both (int_le q.lo q.hi) _ h).0)
  where
    at_most : (a b : ℤ) → int_le a b ≡ true → a ≤ℤ b
    at_most a b e = grind (arith, ints, e)
range_all (q ∷ rs) (suc v) r h e = range_all rs v r (both (int_le q.lo q.hi) _ h).1 e

below_length : {A : Type 0} (xs : List A) (n : ℕ) (x : A) → slice_get xs n ≡ Some x → n < length xs
below_length [] n x e = absurd (cc)
below_length (y ∷ xs) zero x e = omega arith
below_length (y ∷ xs) (suc n) x e =
    let next : n < length xs = below_length xs n x e in
    omega (arith, next)

pub whole_box : (rs : List Range) → length rs < 2 ^ 32 → list_all (λ (r : Range). int_le r.lo r.hi) rs ≡ true → IsBox rs [] (whole 0 rs)
whole_box rs few h = record { count = whole_length 0 rs; each = bound }
  where
    bound : (v : ℕ) (b : Bound) → slice_get (whole 0 rs) v ≡ Some b → IsBound rs [] v b
    bound v b e =
        let at = whole_at 0 rs v b e in
        let start : 0 + v ≡ v = omega arith in
        let is : b ≡ whole_bound v at.0 = at.2 ∙ ap (λ (n : ℕ). whole_bound n at.0) start in
        let some : at.0.lo ≤ℤ at.0.hi = range_all rs v at.0 h at.1 in
        let own : IsBound rs [] v (whole_bound v at.0) = record {
          low = ap (option_map (λ (r : Range). one_variable v (negsuc 0) (neg_ℤ r.lo))) at.1;
          high = ap (option_map (λ (r : Range). one_variable v (pos 1) r.hi)) at.1;
          inside = λ r g. (let same : at.0 ≡ r = injective at.0 r (sym at.1 ∙ g) in subst (λ (r : Range). IsInside r (whole_bound v at.0)) same (record { low = itself at.0.lo; some = some; high = itself at.0.hi }));
          low_fits = small_place v (lower v (length rs) (below_length rs v at.0 at.1) few);
          high_fits = small_place v (lower v (length rs) (below_length rs v at.0 at.1) few);
        } in
        subst (IsBound rs [] v) (sym is) own
      where
        lower : (v n : ℕ) → v < n → n < 2 ^ 32 → v < 2 ^ 32
        lower v n h few = omega arith

        injective : (q r : Range) → Some q ≡ Some r → q ≡ r
        injective q r e = cc

        itself : (x : ℤ) → x ≤ℤ x
        itself x = omega (arith, ints)

-- ---- numbers
end_size : (by lo hi l h : ℤ) → l ≤ℤ lo → lo ≤ℤ hi → hi ≤ℤ h → unsigned_abs (if int_lt (pos 0) by then lo else hi) ≤ max 1 (max (unsigned_abs l) (unsigned_abs h))
end_size by lo hi l h p q r = by_test (int_lt (pos 0) by)
  where
    first : (lo hi l h : ℤ) → l ≤ℤ lo → lo ≤ℤ hi → hi ≤ℤ h → unsigned_abs lo ≤ max 1 (max (unsigned_abs l) (unsigned_abs h))
    first lo hi l h p q r = grind (arith, ints, p, q, r)

    second : (lo hi l h : ℤ) → l ≤ℤ lo → lo ≤ℤ hi → hi ≤ℤ h → unsigned_abs hi ≤ max 1 (max (unsigned_abs l) (unsigned_abs h))
    second lo hi l h p q r = grind (arith, ints, p, q, r)

    by_test : (b : Bool) → unsigned_abs (if b then lo else hi) ≤ max 1 (max (unsigned_abs l) (unsigned_abs h))
    by_test true = first lo hi l h p q r
    by_test false = second lo hi l h p q r

product_size : (by x : ℤ) (m : ℕ) → unsigned_abs x ≤ m → unsigned_abs (by *ℤ x) ≤ unsigned_abs by * m
product_size by x m h =
    let k : unsigned_abs by * unsigned_abs x ≤ unsigned_abs by * m = mul-le-mul_left (unsigned_abs by) h in
    rw (unsigned_abs-mul by x) k

reaches_small : (ranges : List Range) (ds : List Form) (bs : List Bound) (ps : List Part) → IsBox ranges ds bs → names_below (length bs) ps ≡ true → reaches bs ps ≤ weight ranges ps
reaches_small ranges ds bs [] box names = omega arith
reaches_small ranges ds bs (p ∷ ps) box names =
    let there = both (nat_lt p.variable (length bs)) (names_below (length bs) ps) names in
    let at = place_there bs p.variable there.0 in
    let r = there_too bs ranges p.variable at.0 box.count at.1 in
    let i = (box.each p.variable at.0 at.1).inside r.0 r.1 in
    let one : unsigned_abs (p.by *ℤ end_of p.by at.0) ≤ unsigned_abs p.by * range_size r.0 = product_size p.by (end_of p.by at.0) (range_size r.0) (end_size p.by at.0.lo at.0.hi r.0.lo r.0.hi i.low i.some i.high) in
    let reached : unsigned_abs (reach p.by (slice_get bs p.variable)) ≡ unsigned_abs (p.by *ℤ end_of p.by at.0) = ap (λ (o : Option Bound). unsigned_abs (reach p.by o)) at.1 in
    let size : size_at ranges p.variable ≡ range_size r.0 = ap range_size (get_or_from_slice_get ranges p.variable r.0 (record { lo = pos 0; hi = pos 0 }) r.1) in
    let first : unsigned_abs (reach p.by (slice_get bs p.variable)) ≤ unsigned_abs p.by * size_at ranges p.variable = rw (reached, size) one in
    let rest : reaches bs ps ≤ weight ranges ps = reaches_small ranges ds bs ps box there.1 in
    omega (arith, first, rest)

atom_fits : (ranges : List Range) (ds : List Form) (bs : List Bound) (t : Form) → IsBox ranges ds bs → is_narrow_atom ranges t ≡ true → is_fit bs t ≡ true
atom_fits ranges ds bs t box h =
    let parts = both (names_below (length ranges) t.parts) (nat_le (unsigned_abs t.bound + weight ranges t.parts) (2 ^ 100)) h in
    let names : names_below (length bs) t.parts ≡ true = ap (λ (n : ℕ). names_below n t.parts) box.count ∙ parts.0 in
    let small : nat_le (unsigned_abs t.bound + reaches bs t.parts) (2 ^ 100) ≡ true = less (unsigned_abs t.bound) (reaches bs t.parts) (weight ranges t.parts) (2 ^ 100) (reaches_small ranges ds bs t.parts box names) parts.1 in
    rw (names, small) refl
  where
    less : (b r w m : ℕ) → r ≤ w → nat_le (b + w) m ≡ true → nat_le (b + r) m ≡ true
    less b r w m h e = grind (arith, nat_tests, h, e)

atoms_fit : (ranges : List Range) (ds : List Form) (bs : List Bound) (ts : List Form) → IsBox ranges ds bs → list_all (is_narrow_atom ranges) ts ≡ true → list_all (is_fit bs) ts ≡ true
atoms_fit ranges ds bs [] box h = refl
atoms_fit ranges ds bs (t ∷ ts) box h =
    let parts = both (is_narrow_atom ranges t) (list_all (is_narrow_atom ranges) ts) h in
    rw (atom_fits ranges ds bs t box parts.0, atoms_fit ranges ds bs ts box parts.1) refl

pub all_fit_in : (ranges : List Range) (ds : List Form) (bs : List Bound) (cs : List Clause) → IsBox ranges ds bs → list_all (λ (c : Clause). list_all (is_narrow_atom ranges) c.atoms) cs ≡ true → all_fit bs cs ≡ true
all_fit_in ranges ds bs [] box h = refl
all_fit_in ranges ds bs (c ∷ cs) box h =
    let parts = both (list_all (is_narrow_atom ranges) c.atoms) (list_all (λ (c : Clause). list_all (is_narrow_atom ranges) c.atoms) cs) h in
    rw (atoms_fit ranges ds bs c.atoms box parts.0, all_fit_in ranges ds bs cs box parts.1) refl

pub set_falls : (bs : List Bound) (v : ℕ) (old new : Bound) → v < length bs → slice_get bs v ≡ Some old → width new < width old → span (slice_set bs v new) < span bs
set_falls bs v old new below there h = span_falls bs v new below (λ b e. subst (λ (b : Bound). width new < width b) (same old b (sym there ∙ e)) h)
  where
    same : (b c : Bound) → Some b ≡ Some c → b ≡ c
    same b c e = cc
