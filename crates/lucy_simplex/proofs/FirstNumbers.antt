-- The numbers of the first tableau, and which of them are too wide.
use Rattle.std.proofs.Common.{◌≡◌, inl, inr, ℕ, zero, suc, ◌+◌, ◌<◌, ◌≤◌, ℤ, pos, List, [], ◌∷◌, ◌++◌, length, take, get_or, slice_get, Some, append_assoc, ap, sym, ◌∙◌, refl, subst, arith}
use Rattle.std.proofs.lemmas.List.{take_more}
use Rattle.lucy_fraction.specs.Rationals.{ratio, IsTooWide}
use Rattle.lucy_clauses.specs.declared.formulas.Range.{Range}
use Rattle.lucy_clauses.specs.Sums.{Form, number_at}
use Rattle.lucy_simplex.specs.Systems.{lows_of}
use Rattle.lucy_simplex.specs.Tableaus.{Equation, equation}
use Rattle.lucy_simplex.specs.First.{zeros, unit, row_numbers, bound_numbers, row_equations, bound_equations}
use Rattle.lucy_simplex.specs.Causes.{SomeTooWide, IsFirstTooWide}
use Rattle.lucy_simplex.specs.Widths.{StopsAt, StopsFor}
use Rattle.lucy_simplex.specs.declared.stops.Stop.{Stop}
use Rattle.lucy_simplex.proofs.Stopping.{stops_for}
use Rattle.lucy_simplex.proofs.FirstLines.{row_shape, bound_shape}

-- a list that is appended one by one
pub pushed_none : (before zs : List ℤ) → before ≡ before ++ take 0 zs
pushed_none before zs = sym (nothing before) ∙ ap (λ (ys : List ℤ). before ++ ys) (sym (none zs))
  where
    nothing : (xs : List ℤ) → xs ++ [] ≡ xs
    nothing [] = refl
    nothing (x ∷ xs) = ap (λ (u : List ℤ). x ∷ u) (nothing xs)

    none : (xs : List ℤ) → take 0 xs ≡ []
    none [] = refl
    none (x ∷ xs) = refl

pub pushed_more : (before zs items more : List ℤ) (i : ℕ) (x : ℤ) → items ≡ before ++ take i zs → more ≡ items ++ x ∷ [] → i < length zs → number_at zs i ≡ x → more ≡ before ++ take (i + 1) zs
pushed_more before zs items more i x h e below is =
    e ∙ ap (λ (ys : List ℤ). ys ++ x ∷ []) h ∙ append_assoc before (take i zs) (x ∷ [])
    ∙ ap (λ (ys : List ℤ). before ++ ys) (ap (λ (y : ℤ). take i zs ++ y ∷ []) (sym is) ∙ sym (take_more zs i (pos 0) below))

pub pushed_whole : (before zs items : List ℤ) (i : ℕ) → items ≡ before ++ take i zs → length zs ≤ i → items ≡ before ++ zs
pushed_whole before zs items i h past = h ∙ ap (λ (ys : List ℤ). before ++ ys) (whole zs i past)
  where
    whole : (xs : List ℤ) (i : ℕ) → length xs ≤ i → take i xs ≡ xs
    whole [] zero h = refl
    whole [] (suc i) h = refl
    whole (x ∷ xs) zero h = absurd (omega (arith, h))
    whole (x ∷ xs) (suc i) h = ap (λ (ys : List ℤ). x ∷ ys) (whole xs i (omega (arith, h)))

pub some_wide : (xs : List ℤ) (i : ℕ) (x : ℤ) → i < length xs → number_at xs i ≡ x → IsTooWide (ratio x 1) → SomeTooWide xs
some_wide [] i x h is wide = absurd (omega (arith, h))
some_wide (y ∷ xs) zero x h is wide = inl (subst (λ (z : ℤ). IsTooWide (ratio z 1)) (sym is) wide)
some_wide (y ∷ xs) (suc i) x h is wide = inr (some_wide xs i x (omega (arith, h)) is wide)

-- the numbers of a line, pushed one after another
pub row_pushed : (n : ℕ) (k l : ℤ) (fs us zs bs cs ds es gs : List ℤ) → zs ≡ [] → bs ≡ zs ++ k ∷ [] → cs ≡ bs ++ pos 1 ∷ [] → ds ≡ cs ++ fs → es ≡ ds ++ us → gs ≡ es ++ unit n n → k ≡ l → gs ≡ l ∷ pos 1 ∷ (fs ++ (us ++ zeros n))
row_pushed n k l fs us zs bs cs ds es gs a b c d e g is =
    g
    ∙ ap (λ (ys : List ℤ). ys ++ unit n n)
    (e ∙ ap (λ (ys : List ℤ). ys ++ us) (d ∙ ap (λ (ys : List ℤ). ys ++ fs) (c ∙ ap (λ (ys : List ℤ). ys ++ pos 1 ∷ []) (b ∙ ap (λ (ys : List ℤ). ys ++ k ∷ []) a))))
    ∙ row_shape k fs us n ∙ ap (λ (x : ℤ). x ∷ pos 1 ∷ (fs ++ (us ++ zeros n))) is

pub bound_pushed : (m : ℕ) (k l : ℤ) (us zs bs cs ds es gs : List ℤ) → zs ≡ [] → bs ≡ zs ++ k ∷ [] → cs ≡ bs ++ pos 1 ∷ [] → ds ≡ cs ++ us → es ≡ ds ++ unit m m → gs ≡ es ++ us → k ≡ l → gs ≡ l ∷ pos 1 ∷ (us ++ (zeros m ++ us))
bound_pushed m k l us zs bs cs ds es gs a b c d e g is =
    g
    ∙ ap (λ (ys : List ℤ). ys ++ us)
    (e ∙ ap (λ (ys : List ℤ). ys ++ unit m m) (d ∙ ap (λ (ys : List ℤ). ys ++ us) (c ∙ ap (λ (ys : List ℤ). ys ++ pos 1 ∷ []) (b ∙ ap (λ (ys : List ℤ). ys ++ k ∷ []) a))))
    ∙ bound_shape k us us m ∙ ap (λ (x : ℤ). x ∷ pos 1 ∷ (us ++ (zeros m ++ us))) is

-- ---- the equations at their places

row_there : (n m : ℕ) (los : List ℤ) (from i at : ℕ) (rows : List Form) (r : Form) → at ≡ from + i → i < length rows → get_or rows i r ≡ r → slice_get (row_equations n m los from rows) i ≡ Some (equation 1 (2 + n + at) (row_numbers n m los at r))
row_there n m los from i at [] r e h is = absurd (omega (arith, h))
row_there n m los from zero at (x ∷ rows) r e h is =
    ap (λ (k : ℕ). Some (equation 1 (2 + n + k) (row_numbers n m los k x))) (omega (arith, e)) ∙ ap (λ (y : Form). Some (equation 1 (2 + n + at) (row_numbers n m los at y))) is
row_there n m los from (suc i) at (x ∷ rows) r e h is = row_there n m los (from + 1) i at rows r (omega (arith, e)) (omega (arith, h)) is

bound_there : (n m from i at : ℕ) (bounds : List Range) (b : Range) → at ≡ from + i → i < length bounds → get_or bounds i b ≡ b → slice_get (bound_equations n m from bounds) i ≡ Some (equation 1 (2 + n + m + at) (bound_numbers n m at b))
bound_there n m from i at [] b e h is = absurd (omega (arith, h))
bound_there n m from zero at (x ∷ bounds) b e h is =
    ap (λ (k : ℕ). Some (equation 1 (2 + n + m + k) (bound_numbers n m k x))) (omega (arith, e)) ∙ ap (λ (y : Range). Some (equation 1 (2 + n + m + at) (bound_numbers n m at y))) is
bound_there n m from (suc i) at (x ∷ bounds) b e h is = bound_there n m (from + 1) i at bounds b (omega (arith, e)) (omega (arith, h)) is

in_front : (ps qs : List Equation) (i : ℕ) (q : Equation) → slice_get ps i ≡ Some q → slice_get (ps ++ qs) i ≡ Some q
in_front [] qs i q h = absurd (cc)
in_front (p ∷ ps) qs zero q h = h
in_front (p ∷ ps) qs (suc i) q h = in_front ps qs i q h

behind_front : (ps qs : List Equation) (n i at : ℕ) (q : Equation) → length ps ≡ n → at ≡ n + i → slice_get qs i ≡ Some q → slice_get (ps ++ qs) at ≡ Some q
behind_front [] qs n i at q size e h = ap (slice_get qs) (omega (arith, size, e)) ∙ h
behind_front (p ∷ ps) qs n i zero q size e h = absurd (omega (arith, size, e))
behind_front (p ∷ ps) qs n i (suc at) q size e h = behind_front ps qs (length ps) i at q refl (omega (arith, size, e)) h

rows_length : (n m : ℕ) (los : List ℤ) (from : ℕ) (rows : List Form) → length (row_equations n m los from rows) ≡ length rows
rows_length n m los from [] = refl
rows_length n m los from (r ∷ rows) = ap suc (rows_length n m los (from + 1) rows)

pub row_stops : (rows : List Form) (bounds : List Range) (i : ℕ) (r : Form) (numbers : List ℤ) (stop : Stop) → i < length rows → get_or rows i r ≡ r → numbers ≡ row_numbers (length bounds) (length rows) (lows_of bounds) i r
    → StopsAt i (SomeTooWide numbers) stop → StopsFor (IsFirstTooWide rows bounds) stop
row_stops rows bounds i r numbers stop below is same h =
    let n = length bounds in
    let m = length rows in
    let los = lows_of bounds in
    stops_for i (SomeTooWide numbers) (IsFirstTooWide rows bounds) stop (λ w. record {
      equation = equation 1 (2 + n + i) (row_numbers n m los i r);
      there = in_front (row_equations n m los 0 rows) (bound_equations n m 0 bounds) i (equation 1 (2 + n + i) (row_numbers n m los i r)) (row_there n m los 0 i i rows r (omega arith) below is);
      wide = subst SomeTooWide same w;
    }) h

pub bound_stops : (rows : List Form) (bounds : List Range) (i at : ℕ) (b : Range) (numbers : List ℤ) (stop : Stop) → i < length bounds → get_or bounds i b ≡ b → at ≡ length rows + i → numbers ≡ bound_numbers (length bounds) (length rows) i b
    → StopsAt at (SomeTooWide numbers) stop → StopsFor (IsFirstTooWide rows bounds) stop
bound_stops rows bounds i at b numbers stop below is place same h =
    let n = length bounds in
    let m = length rows in
    let los = lows_of bounds in
    stops_for at (SomeTooWide numbers) (IsFirstTooWide rows bounds) stop (λ w. record {
      equation = equation 1 (2 + n + m + i) (bound_numbers n m i b);
      there = behind_front (row_equations n m los 0 rows) (bound_equations n m 0 bounds) m i at (equation 1 (2 + n + m + i) (bound_numbers n m i b)) (rows_length n m los 0 rows) place (bound_there n m 0 i i bounds b (omega arith) below is);
      wide = subst SomeTooWide same w;
    }) h
