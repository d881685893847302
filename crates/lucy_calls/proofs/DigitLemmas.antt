-- Decimals as fields.
use Rattle.std.proofs.Common.{◌≡◌, ℕ, ◌+◌, ◌-◌, ◌*◌, ◌^◌, ◌<◌, Bool, true, false, eqb, nat_lt, nat_le, min, ◌&&◌, if◌then◌else◌, ℤ, pos, negsuc, FitsSigned, List, [], ◌∷◌, length, Option, None, Some, Ok, refl, ap, ◌∙◌, arith}
use Rattle.std.proofs.lemmas.Bool.Decides.{nat_tests}
use Rattle.std.specs.Char.{digit_value}
use Rattle.std.specs.Fmt.{decimal, signed_decimal}
use Rattle.std.specs.Int.{w128}
use Rattle.std.specs.List.{list_all}
use Rattle.lucy_io.specs.Decimals.{digits_on, natural_of, positive_of, negative_of, number_of, WrittenIsRead}
use Rattle.lucy_calls.specs.Laws.{is_field}
use Rattle.lucy_calls.specs.Numbers.{number}

some_digit : (t : Bool) (x : Option ℕ) (m : ℕ) → (if t then x else None) ≡ Some m → (t ≡ true) × (x ≡ Some m)
some_digit true x m e = (refl, e)
some_digit false x m e = absurd (cc)

not_taken : (t : Bool) (x : Option ℕ) (m : ℕ) → (if t then None else x) ≡ Some m → x ≡ Some m
not_taken true x m e = absurd (cc)
not_taken false x m e = e

printed : (c : ℕ) → nat_lt (digit_value c) 10 ≡ true → nat_le 33 c ≡ true
printed c h = grind (arith, nat_tests)

both : (s t : Bool) → s ≡ true → t ≡ true → (s && t) ≡ true
both s t h k = rw (h, k) refl

digits_printed : (k m : ℕ) (cs : List ℕ) → digits_on k cs ≡ Some m → list_all (nat_le 33) cs ≡ true
digits_printed k m [] e = refl
digits_printed k m (c ∷ cs) e =
    let t = some_digit (nat_lt (digit_value c) 10) (digits_on (k * 10 + digit_value c) cs) m e in
    both (nat_le 33 c) (list_all (nat_le 33) cs) (printed c t.0) (digits_printed (k * 10 + digit_value c) m cs t.1)

natural_field : (text : List ℕ) (m : ℕ) → natural_of text ≡ Some m → is_field text ≡ true
natural_field [] m e = absurd (cc)
natural_field (c ∷ cs) m e = digits_printed 0 m (c ∷ cs) (not_taken (eqb c 48 && nat_lt 0 (length cs)) (digits_on 0 (c ∷ cs)) m e)

positive_some : (o : Option ℕ) (z : ℤ) → positive_of o ≡ Some z → (n : ℕ) × (o ≡ Some n) × (z ≡ pos n)
positive_some None z e = absurd (cc)
positive_some (Some n) z e = (n, refl, taken (nat_lt n (2 ^ 127)) e)
  where
    taken : (t : Bool) → (if t then Some (pos n) else None) ≡ Some z → z ≡ pos n
    taken true e' = cc
    taken false e' = absurd (cc)

negative_some : (o : Option ℕ) (z : ℤ) → negative_of o ≡ Some z → (n : ℕ) × (m : ℕ) × (o ≡ Some n) × (z ≡ negsuc m)
negative_some None z e = absurd (cc)
negative_some (Some n) z e = (n, n - 1, refl, taken (nat_lt 0 n && nat_lt (n - 1) (2 ^ 127)) e)
  where
    taken : (t : Bool) → (if t then Some (negsuc (n - 1)) else None) ≡ Some z → z ≡ negsuc (n - 1)
    taken true e' = cc
    taken false e' = absurd (cc)

minus_printed : (c : ℕ) → eqb c 45 ≡ true → nat_le 33 c ≡ true
minus_printed c h = grind (arith, nat_tests)

field_tail : (text : List ℕ) → is_field text ≡ true → list_all (nat_le 33) text ≡ true
field_tail [] e = absurd (cc)
field_tail (c ∷ cs) e = e

-- a text that is read as a number is a field
pub number_field : (text : List ℕ) (z : ℤ) → number_of text ≡ Some z → is_field text ≡ true
number_field [] z e = absurd (cc)
number_field (c ∷ cs) z e = by (eqb c 45) refl e
  where
    by : (t : Bool) → eqb c 45 ≡ t → (if t then negative_of (natural_of cs) else positive_of (natural_of (c ∷ cs))) ≡ Some z → is_field (c ∷ cs) ≡ true
    by true minus e' =
        let p = negative_some (natural_of cs) z e' in
        both (nat_le 33 c) (list_all (nat_le 33) cs) (minus_printed c minus) (field_tail cs (natural_field cs p.0 p.2))
    by false minus e' =
        let p = positive_some (natural_of (c ∷ cs)) z e' in
        natural_field (c ∷ cs) p.0 p.1

-- a text that is read as a number from 0 on begins with a digit
natural_by : (text : List ℕ) (n : ℕ) → number_of text ≡ Some (pos n) → natural_of text ≡ Some n
natural_by [] n e = absurd (cc)
natural_by (c ∷ cs) n e = by (eqb c 45) e
  where
    by : (t : Bool) → (if t then negative_of (natural_of cs) else positive_of (natural_of (c ∷ cs))) ≡ Some (pos n) → natural_of (c ∷ cs) ≡ Some n
    by true e' =
        let p = negative_some (natural_of cs) (pos n) e' in
        absurd (other p.1 p.3)
      where
        other : (m : ℕ) → pos n ≡ negsuc m → ⊥
        other m e'' = cc
    by false e' =
        let p = positive_some (natural_of (c ∷ cs)) (pos n) e' in
        p.1 ∙ ap (λ (k : ℕ). Some k) (same p.0 p.2)
      where
        same : (m : ℕ) → pos n ≡ pos m → m ≡ n
        same m e'' = cc

module _ (read : WrittenIsRead) where
  pub signed_field : (z : ℤ) → FitsSigned w128 z → is_field (signed_decimal z) ≡ true
  signed_field z fits = number_field (signed_decimal z) z (read z fits)

  wide : (n : ℕ) → n < 2 ^ 64 → FitsSigned w128 (pos n)
  wide n lt = record { sfits = omega arith }

  pub natural_back : (n : ℕ) → n < 2 ^ 64 → natural_of (decimal n) ≡ Some n
  natural_back n lt = natural_by (decimal n) n (read (pos n) (wide n lt))

  pub decimal_field : (n : ℕ) → n < 2 ^ 64 → is_field (decimal n) ≡ true
  decimal_field n lt = natural_field (decimal n) n (natural_back n lt)

  pub number_back : (line n : ℕ) → n < 2 ^ 64 → number line (decimal n) ≡ Ok n
  unfolding number
  number_back line n lt = rw (natural_back n lt) (ap (λ (k : ℕ). Ok k) (small n lt))
    where
      small : (m : ℕ) → m < 2 ^ 64 → min m (2 ^ 64) ≡ m
      small m lt' = omega arith
