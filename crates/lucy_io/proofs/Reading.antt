-- Digits as they are read.
use Rattle.std.proofs.Common.{◌≡◌, ℕ, ◌+◌, ◌*◌, ◌<◌, ◌≤◌, Bool, true, false, nat_lt, if◌then◌else◌, List, [], ◌∷◌, Option, None, Some, refl, ap, ◌∙◌, arith, drop, drop-cons, get_or, length, add-one, sym, subst}
use Rattle.std.proofs.lemmas.Bool.Decides.{nat_tests}
use Rattle.std.specs.Char.{digit_value}
use Rattle.lucy_io.specs.Decimals.{digits_on, below}

not_below : (m n : ℕ) → m ≤ n → below m (Some n) ≡ None
not_below m n h = grind (arith, nat_tests)

large_step : (m : ℕ) (b : Bool) (rest : Option ℕ) → below m rest ≡ None → below m (if b then rest else None) ≡ None
large_step m true rest h = h
large_step m false rest h = refl

-- what has passed m stays there
digits_on_large : (m n : ℕ) (cs : List ℕ) → m ≤ n → below m (digits_on n cs) ≡ None
digits_on_large m n [] h = not_below m n h
digits_on_large m n (c ∷ cs) h =
    large_step m (nat_lt (digit_value c) 10) (digits_on (n * 10 + digit_value c) cs) (digits_on_large m (n * 10 + digit_value c) cs (omega arith))

pub below_here : (m n : ℕ) → n < m → Some n ≡ below m (Some n)
below_here m n h = grind (arith, nat_tests)

pub digit_read : (b : Bool) (rest : Option ℕ) → b ≡ true → (if b then rest else None) ≡ rest
digit_read true rest h = refl
digit_read false rest h = absurd (cc)

digits_on-drop : (cs : List ℕ) (i n : ℕ) → i < length cs → nat_lt (digit_value (get_or cs i 0)) 10 ≡ true → digits_on n (drop i cs) ≡ digits_on (n * 10 + digit_value (get_or cs i 0)) (drop (i + 1) cs)
digits_on-drop cs i n under digit = rw (add-one, drop-cons cs i 0 under) (digit_read (nat_lt (digit_value (get_or cs i 0)) 10) _ digit)

pub digit_tested : (d : ℕ) → d < 10 → nat_lt d 10 ≡ true
digit_tested d h = grind (arith, nat_tests)

-- a digit that takes the number to m or past it
pub digits_on_full : (m : ℕ) (cs : List ℕ) (i n c d : ℕ) → i < length cs → c ≡ get_or cs i 0 → digit_value c < 10 → digit_value c ≡ d → (n * 10 + d < m → ⊥) → below m (digits_on n (drop i cs)) ≡ None
digits_on_full m cs i n c d under at small is full =
    let digit = subst (λ (x : ℕ). digit_value x < 10) at small in
    let value = ap digit_value (sym at) ∙ is in
    ap (below m) (digits_on-drop cs i n under (digit_tested (digit_value (get_or cs i 0)) digit))
    ∙ digits_on_large m (n * 10 + digit_value (get_or cs i 0)) (drop (i + 1) cs) (omega (arith, full, value))
