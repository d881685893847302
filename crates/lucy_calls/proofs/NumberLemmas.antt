-- Digits as they are read, up to 2 ^ 64.
use Rattle.std.proofs.Common.{◌≡◌, ℕ, ◌+◌, ◌*◌, ◌^◌, ◌<◌, Bool, true, false, min, nat_lt, if◌then◌else◌, List, [], ◌∷◌, Option, None, Some, refl, ap, sym, ◌∙◌, arith, drop, drop-cons, get_or, length, add-one}
use Rattle.std.specs.Prelude.{option_map}
use Rattle.std.proofs.lemmas.Bool.Decides.{nat_tests}
use Rattle.std.specs.Char.{digit_value}
use Rattle.lucy_io.specs.Decimals.{digits_on}

abbrev pub capped : Option ℕ → Option ℕ
capped = option_map (λ n. min n (2 ^ 64))

twice : (n : ℕ) → min (min n (2 ^ 64)) (2 ^ 64) ≡ min n (2 ^ 64)
twice n = omega arith

next_cap : (n d : ℕ) → min (min n (2 ^ 64) * 10 + d) (2 ^ 64) ≡ min (n * 10 + d) (2 ^ 64)
next_cap n d = omega arith

capped_by : (t : Bool) (x y : Option ℕ) → capped x ≡ capped y → capped (if t then x else None) ≡ capped (if t then y else None)
capped_by true x y e = e
capped_by false x y e = refl

pub capped_on : (n : ℕ) (cs : List ℕ) → capped (digits_on (min n (2 ^ 64)) cs) ≡ capped (digits_on n cs)
capped_on n [] = ap (λ (k : ℕ). Some k) (twice n)
capped_on n (c ∷ cs) =
    let d = digit_value c in
    capped_by (nat_lt d 10) (digits_on (min n (2 ^ 64) * 10 + d) cs) (digits_on (n * 10 + d) cs)
    (sym (capped_on (min n (2 ^ 64) * 10 + d) cs) ∙ ap (λ (k : ℕ). capped (digits_on k cs)) (next_cap n d) ∙ capped_on (n * 10 + d) cs)

digit_by : (t : Bool) (x : Option ℕ) → t ≡ true → (if t then x else None) ≡ x
digit_by true x e = refl
digit_by false x e = absurd (cc)

not_by : (t : Bool) (x : Option ℕ) → t ≡ false → (if t then x else None) ≡ None
not_by true x e = absurd (cc)
not_by false x e = refl

is_digit : (d : ℕ) → d < 10 → nat_lt d 10 ≡ true
is_digit d lt = grind (arith, nat_tests)

no_digit : (d : ℕ) → (d < 10 → ⊥) → nat_lt d 10 ≡ false
no_digit d ge = grind (arith, nat_tests)

-- one more digit
pub digit_more : (text : List ℕ) (i value c d next : ℕ) (said : Option ℕ) → i < length text → c ≡ get_or text i 0 → digit_value c < 10 → d ≡ digit_value c → next ≡ min (value * 10 + d) (2 ^ 64)
    → capped (digits_on value (drop i text)) ≡ said → capped (digits_on next (drop (i + 1) text)) ≡ said
digit_more text i value c d next said lt at digit is e so =
    let x = get_or text i 0 in
    let same : digit_value x ≡ d = ap digit_value (sym at) ∙ sym is in
    let small : digit_value x < 10 = omega (arith, same, is, digit) in
    ap (λ (k : ℕ). capped (digits_on k (drop (i + 1) text))) (e ∙ ap (λ (k : ℕ). min (value * 10 + k) (2 ^ 64)) (sym same))
    ∙ capped_on (value * 10 + digit_value x) (drop (i + 1) text)
    ∙ ap capped (sym (digit_by (nat_lt (digit_value x) 10) (digits_on (value * 10 + digit_value x) (drop (i + 1) text)) (is_digit (digit_value x) small)))
    ∙ rw (add-one) (ap (λ (cs : List ℕ). capped (digits_on value cs)) (sym (drop-cons text i 0 lt)))
    ∙ so

-- no digit
pub digit_none : (text : List ℕ) (i value c : ℕ) (said : Option ℕ) → i < length text → c ≡ get_or text i 0 → (digit_value c < 10 → ⊥)
    → capped (digits_on value (drop i text)) ≡ said → None ≡ said
digit_none text i value c said lt at no_one so =
    let x = get_or text i 0 in
    let other : digit_value x < 10 → ⊥ = λ h. no_one (rw (at) h) in
    sym (ap capped (not_by (nat_lt (digit_value x) 10) (digits_on (value * 10 + digit_value x) (drop (i + 1) text)) (no_digit (digit_value x) other)))
    ∙ rw (add-one) (ap (λ (cs : List ℕ). capped (digits_on value cs)) (sym (drop-cons text i 0 lt)))
    ∙ so
