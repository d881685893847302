-- Decimal texts, as they are written and read.
use Rattle.std.proofs.Common.{◌≡◌, ℕ, suc, ◌+◌, ◌-◌, ◌*◌, ◌/◌, ◌%◌, ◌^◌, ◌<◌, ◌≤◌, ◌==◌, ◌&&◌, Bool, true, false, nat_lt, if◌then◌else◌, ◌⊎◌, inl, inr, ℤ, pos, negsuc, FitsSigned, List, [], ◌∷◌, ◌++◌, length, Option, None, Some, refl, ap, sym, ◌∙◌, subst, arith}
use Rattle.std.proofs.lemmas.Bool.Decides.{nat_tests}
use Rattle.std.proofs.lemmas.Fmt.{decimal_by_steps_wide, decimal_digit, decimal_step_wide}
use Rattle.std.specs.Char.{digit_value}
use Rattle.std.specs.Fmt.{decimal, signed_decimal}
use Rattle.std.specs.Int.{w128}
use mathlib.Core.List.{append_assoc, append-nil}
use Rattle.lucy_io.proofs.Reading.{digit_read, digit_tested}
use Rattle.lucy_io.specs.Decimals.{digits_on, natural_of, positive_of, negative_of, number_of, WrittenIsRead, ReadIsWritten}

some_inj : {m n : ℕ} → Some m ≡ Some n → m ≡ n
some_inj e = cc

digit_of : (d : ℕ) → d < 10 → digit_value (48 + d) ≡ d
digit_of d small = grind (arith, nat_tests)

-- writing, then reading

one_more : (b : Bool) (x y : Option ℕ) (m k : ℕ) → (x ≡ Some m → y ≡ Some k) → (if b then x else None) ≡ Some m → (if b then y else None) ≡ Some k
one_more true x y m k step e = step e
one_more false x y m k step e = absurd (cc)

last_digit : (n d : ℕ) → d < 10 → digits_on n ((48 + d) ∷ []) ≡ Some (n * 10 + d)
last_digit n d small =
    let v = digit_of d small in
    digit_read (nat_lt (digit_value (48 + d)) 10) (Some (n * 10 + digit_value (48 + d))) (subst (λ (k : ℕ). nat_lt k 10 ≡ true) (sym v) (digit_tested d small))
    ∙ ap (λ (k : ℕ). Some (n * 10 + k)) v

digits_more : (n m d : ℕ) (ds : List ℕ) → d < 10 → digits_on n ds ≡ Some m → digits_on n (ds ++ (48 + d) ∷ []) ≡ Some (m * 10 + d)
digits_more n m d [] small e = last_digit n d small ∙ ap (λ (k : ℕ). Some (k * 10 + d)) (some_inj e)
digits_more n m d (c ∷ cs) small e =
    one_more (nat_lt (digit_value c) 10) _ _ m (m * 10 + d) (λ f. digits_more (n * 10 + digit_value c) m d cs small f) e

-- how the text of n begins
Begins : ℕ → List ℕ → Type 0
Begins n [] = ⊥
Begins n (c ∷ cs) = (0 < n → 48 < c) × (n < 10 → cs ≡ []) × (48 ≤ c)

begins_one : (n : ℕ) → n < 10 → Begins n ((48 + n) ∷ [])
unfolding Begins
begins_one n small = (λ some. omega arith, λ _. refl, omega arith)

begins_more : (n d : ℕ) (ds : List ℕ) → 10 ≤ n → Begins (n / 10) ds → Begins n (ds ++ d ∷ [])
unfolding Begins
begins_more n d [] big b = absurd b
begins_more n d (c ∷ cs) big b = (λ _. b.0 (omega arith), λ small. absurd (omega arith), b.2)

written : (n : ℕ) → n < 10 ^ 64 → (digits_on 0 (decimal n) ≡ Some n) × Begins n (decimal n)
written n wide =
    decimal_by_steps_wide (λ m ds. (digits_on 0 ds ≡ Some m) × Begins m ds)
    (λ m small. (last_digit 0 m small ∙ ap (λ (k : ℕ). Some k) (omega arith), begins_one m small))
    (λ m ds big p. (digits_more 0 (m / 10) (m % 10) ds (omega arith) p.0 ∙ ap (λ (k : ℕ). Some k) (omega arith), begins_more m (48 + m % 10) ds big p.1))
    n wide

natural_read : (n : ℕ) (ds : List ℕ) → digits_on 0 ds ≡ Some n → Begins n ds → natural_of ds ≡ Some n
unfolding Begins
natural_read n [] e b = absurd b
natural_read n (c ∷ cs) e b =
    let zero_alone : (n < 1 → length cs ≡ 0) = λ none. ap length (b.1 (omega arith)) in
    let test : (c == 48 && nat_lt 0 (length cs)) ≡ false = grind (arith, nat_tests, b.0, zero_alone) in
    ap (λ (t : Bool). if t then None else digits_on 0 (c ∷ cs)) test ∙ e

positive_read : (n : ℕ) (ds : List ℕ) → n < 2 ^ 127 → natural_of ds ≡ Some n → Begins n ds → number_of ds ≡ Some (pos n)
unfolding Begins
positive_read n [] fits e b = absurd b
positive_read n (c ∷ cs) fits e b =
    let test : (c == 45) ≡ false = grind (arith, nat_tests, b.2) in
    ap (λ (t : Bool). if t then negative_of (natural_of cs) else positive_of (natural_of (c ∷ cs))) test
    ∙ ap positive_of e ∙ grind (arith, nat_tests)

pub written_read : WrittenIsRead
written_read (pos n) fits =
    let w = written n (omega (arith, fits.sfits)) in
    positive_read n (decimal n) (omega (arith, fits.sfits)) (natural_read n (decimal n) w.0 w.1) w.1
written_read (negsuc n) fits =
    let w = written (suc n) (omega (arith, fits.sfits)) in
    ap negative_of (natural_read (suc n) (decimal (suc n)) w.0 w.1) ∙ grind (arith, nat_tests, fits.sfits)

-- reading, then writing

taken_digit : (b : Bool) (x : Option ℕ) (n : ℕ) → (if b then x else None) ≡ Some n → (b ≡ true) × (x ≡ Some n)
taken_digit true x n e = (refl, e)
taken_digit false x n e = absurd (cc)

below_ten : (d : ℕ) → nat_lt d 10 ≡ true → d < 10
below_ten d h = grind (arith, nat_tests)

digit_back : (c : ℕ) → digit_value c < 10 → 48 + digit_value c ≡ c
digit_back c small = grind (arith, nat_tests)

digits_least : (k n : ℕ) (cs : List ℕ) → digits_on k cs ≡ Some n → k ≤ n
digits_least k n [] e = let same : k ≡ n = some_inj e in omega arith
digits_least k n (c ∷ cs) e =
    let t = taken_digit (nat_lt (digit_value c) 10) (digits_on (k * 10 + digit_value c) cs) n e in
    let more = digits_least (k * 10 + digit_value c) n cs t.1 in
    omega arith

digits_are : (k n : ℕ) (cs : List ℕ) → 0 < k → n < 10 ^ 64 → digits_on k cs ≡ Some n → decimal n ≡ decimal k ++ cs
digits_are k n [] some wide e = ap decimal (sym (some_inj e)) ∙ sym (append-nil (decimal k))
digits_are k n (c ∷ cs) some wide e =
    let v = digit_value c in
    let t = taken_digit (nat_lt v 10) (digits_on (k * 10 + v) cs) n e in
    let small = below_ten v t.0 in
    let least = digits_least (k * 10 + v) n cs t.1 in
    let front : (k * 10 + v) / 10 ≡ k = omega (arith, small) in
    let last : (k * 10 + v) % 10 ≡ v = omega (arith, small) in
    let step = decimal_step_wide (k * 10 + v) (omega arith) (omega (arith, least, wide)) in
    digits_are (k * 10 + v) n cs (omega arith) wide t.1
    ∙ ap (λ (ds : List ℕ). ds ++ cs) (step ∙ ap (λ (m : ℕ). decimal m ++ (48 + (k * 10 + v) % 10) ∷ []) front ∙ ap (λ (d : ℕ). decimal k ++ d ∷ []) (ap (λ (d : ℕ). 48 + d) last ∙ digit_back c small))
    ∙ append_assoc (decimal k) (c ∷ []) cs

taken_number : (b : Bool) (y z : ℤ) → (if b then Some y else None) ≡ Some z → (b ≡ true) × (z ≡ y)
taken_number true y z e = (refl, cc)
taken_number false y z e = absurd (cc)

length_more : (c : ℕ) (cs : List ℕ) → 0 < length (c ∷ cs)
length_more c cs = grind arith

zero_alone : (c : ℕ) (cs : List ℕ) → c ≡ 48 → (c == 48 && nat_lt 0 (length cs)) ≡ false → length cs ≡ 0
zero_alone c cs is test = grind (arith, nat_tests)

under : (n : ℕ) → nat_lt n (2 ^ 127) ≡ true → n < 2 ^ 127
under n test = grind (arith, nat_tests)

between : (n : ℕ) → (nat_lt 0 n && nat_lt (n - 1) (2 ^ 127)) ≡ true → (0 < n) × (n - 1 < 2 ^ 127)
between n test = grind (arith, nat_tests)

is_minus : (c : ℕ) → (c == 45) ≡ true → c ≡ 45
is_minus c test = grind (arith, nat_tests)

above_zero : (d m : ℕ) → 0 < m → (d < 1 → m ≡ 0) → 0 < d
above_zero d m some alone = grind (arith, alone)

-- a first digit above 0, or 0 alone
front_digit : (d n : ℕ) (cs : List ℕ) → d < 10 → n < 10 ^ 64 → (d < 1 → length cs ≡ 0) → digits_on d cs ≡ Some n → decimal n ≡ decimal d ++ cs
front_digit d n [] small wide alone e = ap decimal (sym (some_inj e)) ∙ sym (append-nil (decimal d))
front_digit d n (c ∷ cs) small wide alone e = digits_are d n (c ∷ cs) (above_zero d (length (c ∷ cs)) (length_more c cs) alone) wide e

not_taken : (b : Bool) (x : Option ℕ) (n : ℕ) → (if b then None else x) ≡ Some n → (b ≡ false) × (x ≡ Some n)
not_taken true x n e = absurd (cc)
not_taken false x n e = (refl, e)

natural_are : (n : ℕ) (cs : List ℕ) → n < 10 ^ 64 → natural_of cs ≡ Some n → decimal n ≡ cs
natural_are n [] wide e = absurd (cc)
natural_are n (c ∷ cs) wide e =
    let v = digit_value c in
    let u = not_taken (c == 48 && nat_lt 0 (length cs)) (digits_on 0 (c ∷ cs)) n e in
    let t = taken_digit (nat_lt v 10) (digits_on (0 * 10 + v) cs) n u.1 in
    let small = below_ten v t.0 in
    let back = digit_back c small in
    let alone : (v < 1 → length cs ≡ 0) = λ none. zero_alone c cs (omega (arith, none, back)) u.0 in
    let read = ap (λ (k : ℕ). digits_on k cs) (omega arith) ∙ t.1 in
    front_digit v n cs small wide alone read ∙ ap (λ (ds : List ℕ). ds ++ cs) (decimal_digit v small ∙ ap (λ (d : ℕ). d ∷ []) back)

positive_is : (o : Option ℕ) (z : ℤ) → positive_of o ≡ Some z → (n : ℕ) × (o ≡ Some n) × (n < 2 ^ 127) × (z ≡ pos n)
positive_is None z e = absurd (cc)
positive_is (Some n) z e = let t = taken_number (nat_lt n (2 ^ 127)) (pos n) z e in (n, refl, under n t.0, t.1)

negative_is : (o : Option ℕ) (z : ℤ) → negative_of o ≡ Some z → (n : ℕ) × (o ≡ Some (suc n)) × (n < 2 ^ 127) × (z ≡ negsuc n)
negative_is None z e = absurd (cc)
negative_is (Some n) z e =
    let t = taken_number (nat_lt 0 n && nat_lt (n - 1) (2 ^ 127)) (negsuc (n - 1)) z e in
    let b = between n t.0 in
    (n - 1, ap (λ (k : ℕ). Some k) (omega (arith, b.0)), b.1, t.1)

by_sign : (b : Bool) (x y : Option ℤ) (z : ℤ) → (if b then x else y) ≡ Some z → ((b ≡ true) × (x ≡ Some z)) ⊎ ((b ≡ false) × (y ≡ Some z))
by_sign true x y z e = inl (refl, e)
by_sign false x y z e = inr (refl, e)

read_below : (c : ℕ) (cs : List ℕ) (z : ℤ) → c ≡ 45 → negative_of (natural_of cs) ≡ Some z → (c ∷ cs ≡ signed_decimal z) × FitsSigned w128 z
read_below c cs z minus e =
    let p = negative_is (natural_of cs) z e in
    let text = natural_are (suc p.0) cs (omega (arith, p.2)) p.1 in (
      ap (λ (d : ℕ). d ∷ cs) minus ∙ ap (λ (ds : List ℕ). 45 ∷ ds) (sym text) ∙ sym (ap signed_decimal p.3),
      subst (λ (y : ℤ). FitsSigned w128 y) (sym p.3) (record { sfits = p.2 }),
    )

read_above : (text : List ℕ) (z : ℤ) → positive_of (natural_of text) ≡ Some z → (text ≡ signed_decimal z) × FitsSigned w128 z
read_above text z e =
    let p = positive_is (natural_of text) z e in (
      sym (natural_are p.0 text (omega (arith, p.2)) p.1) ∙ sym (ap signed_decimal p.3),
      subst (λ (y : ℤ). FitsSigned w128 y) (sym p.3) (record { sfits = p.2 }),
    )

pub read_written : ReadIsWritten
read_written [] z e = absurd (cc)
read_written (c ∷ cs) z e =
    elim (by_sign (c == 45) (negative_of (natural_of cs)) (positive_of (natural_of (c ∷ cs))) z e) [
      | inl p ↦ read_below c cs z (is_minus c p.0) p.1
      | inr p ↦ read_above (c ∷ cs) z p.1
    ]
