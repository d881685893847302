-- What multipliers refute has no point.
use Rattle.std.proofs.Common.{◌≡◌, ℕ, zero, suc, ◌*◌, ◌<◌, ℤ, pos, negsuc, ◌+ℤ◌, ◌-ℤ◌, ◌*ℤ◌, ◌≤ℤ◌, ◌<ℤ◌, List, [], ◌∷◌, length, ap, refl, arith}
use Rattle.std.proofs.lemmas.Int.{ints}
use Rattle.std.proofs.Math.IntN.{zero-*ℤ}
use Rattle.lucy_clauses.proofs.Products.{over_sum, regroup, times_le}
use Rattle.lucy_clauses.specs.declared.formulas.Range.{Range}
use Rattle.lucy_clauses.specs.Sums.{Form, sum_at}
use Rattle.lucy_simplex.specs.Systems.{RowsHold, BoundsHold, dot, rows_left, rows_right, NoneNegative, lows_of, highs_of}
use Rattle.lucy_simplex.specs.Laws.{RefutedHasNoPoint}

times_le_any : (m x b : ℤ) → pos 0 ≤ℤ m → x ≤ℤ b → (m *ℤ x) ≤ℤ (m *ℤ b)
times_le_any (pos zero) x b p h = omega (arith, ints, zero-*ℤ x, zero-*ℤ b)
times_le_any (pos (suc n)) x b p h = times_le (pos (suc n)) x b (omega (arith, ints)) h
times_le_any (negsuc n) x b p h = absurd (omega (arith, ints))

rows_le : (d : ℕ) (rows : List Form) (ms xs : List ℤ) → NoneNegative ms → RowsHold d rows xs → rows_left rows ms xs ≤ℤ (rows_right rows ms *ℤ pos d)
rows_le d [] ms xs s h = omega (arith, ints, zero-*ℤ (pos d))
rows_le d (r ∷ rs) [] xs s h = omega (arith, ints, zero-*ℤ (pos d))
rows_le d (r ∷ rs) (m ∷ ms) xs s h =
    omega (arith, ints, rows_le d rs ms xs s.1 h.1, times_le_any m (sum_at r.parts xs) (r.bound *ℤ pos d) s.0 h.0, over_sum (m *ℤ r.bound) (rows_right rs ms) (pos d), regroup m r.bound (pos d))

highs_le : (d : ℕ) (bs : List Range) (ms xs : List ℤ) → NoneNegative ms → BoundsHold d bs xs → dot ms xs ≤ℤ (dot ms (highs_of bs) *ℤ pos d)
highs_le d bs [] xs s h = omega (arith, ints, zero-*ℤ (pos d))
highs_le d [] (m ∷ ms) [] s h = omega (arith, ints, zero-*ℤ (pos d))
highs_le d [] (m ∷ ms) (x ∷ xs) s h = absurd h
highs_le d (b ∷ bs) (m ∷ ms) [] s h = absurd h
highs_le d (b ∷ bs) (m ∷ ms) (x ∷ xs) s h =
    omega (arith, ints, highs_le d bs ms xs s.1 h.2, times_le_any m x (b.hi *ℤ pos d) s.0 h.1, over_sum (m *ℤ b.hi) (dot ms (highs_of bs)) (pos d), regroup m b.hi (pos d))

lows_le : (d : ℕ) (bs : List Range) (ms xs : List ℤ) → NoneNegative ms → BoundsHold d bs xs → (dot ms (lows_of bs) *ℤ pos d) ≤ℤ dot ms xs
lows_le d bs [] xs s h = omega (arith, ints, zero-*ℤ (pos d))
lows_le d [] (m ∷ ms) [] s h = omega (arith, ints, zero-*ℤ (pos d))
lows_le d [] (m ∷ ms) (x ∷ xs) s h = absurd h
lows_le d (b ∷ bs) (m ∷ ms) [] s h = absurd h
lows_le d (b ∷ bs) (m ∷ ms) (x ∷ xs) s h =
    omega (arith, ints, lows_le d bs ms xs s.1 h.2, times_le_any m (b.lo *ℤ pos d) x s.0 h.0, over_sum (m *ℤ b.lo) (dot ms (lows_of bs)) (pos d), regroup m b.lo (pos d))

bounds_length : (d : ℕ) (bs : List Range) (xs : List ℤ) → BoundsHold d bs xs → length xs ≡ length bs
bounds_length d [] [] h = refl
bounds_length d [] (x ∷ xs) h = absurd h
bounds_length d (b ∷ bs) [] h = absurd h
bounds_length d (b ∷ bs) (x ∷ xs) h = ap suc (bounds_length d bs xs h.2)

negative_product : (x : ℤ) (d : ℕ) → 0 < d → x <ℤ pos 0 → (x *ℤ pos d) <ℤ pos 0
negative_product (pos n) d some h = absurd (omega (arith, ints))
negative_product (negsuc n) d some h = omega (arith, ints, some_product (suc n) d (omega arith))
  where
    some_product : (a b : ℕ) → 0 < a → 0 < b → 0 < a * b
    some_product a b p q = grind arith

pub refuted_has_no_point : RefutedHasNoPoint
refuted_has_no_point rows bounds ms lows highs point f s =
    let r = rows_right rows ms in
    let h = dot highs (highs_of bounds) in
    let l = dot lows (lows_of bounds) in
    let spread : (r +ℤ (h -ℤ l)) *ℤ pos s.below ≡ r *ℤ pos s.below +ℤ (h *ℤ pos s.below -ℤ l *ℤ pos s.below) = spread_of r h l (pos s.below) in
    absurd (omega (
      arith,
      ints,
      spread,
      f.left s.tops (bounds_length s.below bounds s.tops s.bounds_hold),
      negative_product (r +ℤ (h -ℤ l)) s.below s.positive f.right,
      rows_le s.below rows ms s.tops f.rows_sign s.rows_hold,
      highs_le s.below bounds highs s.tops f.highs_sign s.bounds_hold,
      lows_le s.below bounds lows s.tops f.lows_sign s.bounds_hold,
    ))
  where
    spread_of : (r h l d : ℤ) → (r +ℤ (h -ℤ l)) *ℤ d ≡ r *ℤ d +ℤ (h *ℤ d -ℤ l *ℤ d)
    spread_of r h l d =
        let back : (h -ℤ l) +ℤ l ≡ h = omega (arith, ints) in
        omega (arith, ints, over_sum r (h -ℤ l) d, over_sum (h -ℤ l) l d, ap (λ (x : ℤ). x *ℤ d) back)
