-- Numbers, parts, bounds and references that were written, as they are read.
use Rattle.std.proofs.Common.{◌≡◌, ℕ, ◌+◌, ◌*◌, ◌^◌, ◌<◌, ◌≤◌, Bool, true, false, cond, eqb, nat_lt, nat_le, not, ◌&&◌, ◌||◌, ℤ, pos, negsuc, FitsSigned, List, [], ◌∷◌, ◌++◌, length, Option, Some, None, refl, ap, ◌∙◌, arith}
use Rattle.std.proofs.lemmas.Bool.Decides.{nat_tests}
use Rattle.std.proofs.lemmas.List.{append-nil}
use Rattle.std.specs.Char.{digit_value}
use Rattle.std.specs.Fmt.{decimal, signed_decimal}
use Rattle.std.specs.Int.{w128}
use Rattle.std.specs.List.{list_all}
use Rattle.std.specs.Prelude.{bytes_eq, int_lt}
use Rattle.lucy_clauses.specs.declared.lines.Ref.{Ref}
use Rattle.lucy_clauses.specs.declared.lines.Ref.TheVariants.{Negated, Low, High, Derived}
use Rattle.lucy_clauses.specs.declared.parts.Part.{Part}
use Rattle.lucy_clauses.specs.Parts.{is_within}
use Rattle.lucy_io.specs.Decimals.{digits_on, natural_of, positive_of, negative_of, number_of, WrittenIsRead}
use Rattle.lucy_cert.specs.Tokens as tokens
use Rattle.lucy_cert.specs.Writable.{part_fits, ref_fits}
use Rattle.lucy_cert.proofs.PieceLemmas.{is_solid, lacks, cut_lacking, cut_behind}
use Rattle.lucy_cert.proofs.Tests.{both, parts_of, weaken, all_append}

-- ---- the bytes of a number

abbrev pub is_plain : ℕ → Bool
is_plain c = nat_lt (digit_value c) 10 || eqb c 45

some_digit : (t : Bool) (x : Option ℕ) (m : ℕ) → cond t x None ≡ Some m → (t ≡ true) × (x ≡ Some m)
some_digit true x m e = (refl, e)
some_digit false x m e = absurd (cc)

not_taken : (t : Bool) (x : Option ℕ) (m : ℕ) → cond t None x ≡ Some m → x ≡ Some m
not_taken true x m e = absurd (cc)
not_taken false x m e = e

either : (a b : Bool) → a ≡ true → (a || b) ≡ true
either true b e = refl
either false b e = absurd (cc)

or_second : (a b : Bool) → b ≡ true → (a || b) ≡ true
or_second true b e = refl
or_second false b e = e

digits_plain : (k m : ℕ) (cs : List ℕ) → digits_on k cs ≡ Some m → list_all is_plain cs ≡ true
digits_plain k m [] e = refl
digits_plain k m (c ∷ cs) e =
    let t = some_digit (nat_lt (digit_value c) 10) (digits_on (k * 10 + digit_value c) cs) m e in
    both (is_plain c) (list_all is_plain cs) (either (nat_lt (digit_value c) 10) (eqb c 45) t.0) (digits_plain (k * 10 + digit_value c) m cs t.1)

natural_plain : (text : List ℕ) (m : ℕ) → natural_of text ≡ Some m → list_all is_plain text ≡ true
natural_plain [] m e = absurd (cc)
natural_plain (c ∷ cs) m e = digits_plain 0 m (c ∷ cs) (not_taken (eqb c 48 && nat_lt 0 (length cs)) (digits_on 0 (c ∷ cs)) m e)

positive_some : (o : Option ℕ) (z : ℤ) → positive_of o ≡ Some z → (n : ℕ) × (o ≡ Some n)
positive_some None z e = absurd (cc)
positive_some (Some n) z e = (n, refl)

negative_some : (o : Option ℕ) (z : ℤ) → negative_of o ≡ Some z → (n : ℕ) × (o ≡ Some n)
negative_some None z e = absurd (cc)
negative_some (Some n) z e = (n, refl)

-- a number has digits alone, behind a sign
pub number_plain : (text : List ℕ) (z : ℤ) → number_of text ≡ Some z → list_all is_plain text ≡ true
number_plain [] z e = absurd (cc)
number_plain (c ∷ cs) z e = by (eqb c 45) refl e
  where
    by : (t : Bool) → eqb c 45 ≡ t → cond t (negative_of (natural_of cs)) (positive_of (natural_of (c ∷ cs))) ≡ Some z → list_all is_plain (c ∷ cs) ≡ true
    by true sign e' =
        let p = negative_some (natural_of cs) z e' in
        both (is_plain c) (list_all is_plain cs) (or_second (nat_lt (digit_value c) 10) (eqb c 45) sign) (natural_plain cs p.0 p.1)
    by false sign e' =
        let p = positive_some (natural_of (c ∷ cs)) z e' in
        natural_plain (c ∷ cs) p.0 p.1

plain_solid : (c : ℕ) → is_plain c ≡ true → nat_le 33 c ≡ true
plain_solid c e = grind (arith, nat_tests)

plain_star : (c : ℕ) → is_plain c ≡ true → not (eqb c 42) ≡ true
plain_star c e = grind (arith, nat_tests)

plain_comma : (c : ℕ) → is_plain c ≡ true → not (eqb c 44) ≡ true
plain_comma c e = grind (arith, nat_tests)

-- no number begins with the first byte of a word
pub no_word : (text rest : List ℕ) (z : ℤ) (w : ℕ) (ws : List ℕ) → number_of text ≡ Some z → is_plain w ≡ false → bytes_eq (text ++ rest) (w ∷ ws) ≡ false
no_word [] rest z w ws e h = absurd (cc)
no_word (c ∷ cs) rest z w ws e h = first (eqb c w) refl
  where
    plain : is_plain c ≡ true
    plain = (parts_of (is_plain c) (list_all is_plain cs) (number_plain (c ∷ cs) z e)).0

    first : (t : Bool) → eqb c w ≡ t → (eqb c w && bytes_eq (cs ++ rest) ws) ≡ false
    first true is = absurd (clash c w plain h is)
      where
        clash : (x y : ℕ) → is_plain x ≡ true → is_plain y ≡ false → eqb x y ≡ true → ⊥
        clash x y p q r = grind (arith, nat_tests)
    first false is = rw (is) refl

-- ---- tokens

within_fits : (z : ℤ) → is_within z ≡ true → FitsSigned w128 z
within_fits (pos n) e = record { sfits = grind (arith, nat_tests) }
within_fits (negsuc n) e = record { sfits = grind (arith, nat_tests) }

module _ (read : WrittenIsRead) where
  pub signed_back : (z : ℤ) → is_within z ≡ true → number_of (signed_decimal z) ≡ Some z
  signed_back z e = read z (within_fits z e)

  wide : (n : ℕ) → n < 2 ^ 64 → FitsSigned w128 (pos n)
  wide n lt = record { sfits = omega arith }

  pub decimal_back : (n : ℕ) → n < 2 ^ 64 → number_of (decimal n) ≡ Some (pos n)
  decimal_back n lt = read (pos n) (wide n lt)

  pub signed_solid : (z : ℤ) → is_within z ≡ true → is_solid (signed_decimal z) ≡ true
  signed_solid z e = weaken is_plain (nat_le 33) plain_solid (signed_decimal z) (number_plain (signed_decimal z) z (signed_back z e))

  pub decimal_solid : (n : ℕ) → n < 2 ^ 64 → is_solid (decimal n) ≡ true
  decimal_solid n lt = weaken is_plain (nat_le 33) plain_solid (decimal n) (number_plain (decimal n) (pos n) (decimal_back n lt))

  pub size_back : (z : ℤ) → is_within z ≡ true → tokens.size_of (signed_decimal z) ≡ Some z
  size_back z e = ap tokens.where_within (signed_back z e) ∙ rw (e) refl

  pub positive_back : (z : ℤ) → is_within z ≡ true → int_lt (pos 0) z ≡ true → tokens.positive_of (signed_decimal z) ≡ Some z
  positive_back z e h = ap tokens.where_positive (size_back z e) ∙ rw (h) refl

  below : (n m : ℕ) → n < m → nat_lt n m ≡ true
  below n m lt = grind (arith, nat_tests)

  pub is_below : (n m : ℕ) → nat_lt n m ≡ true → n < m
  is_below n m e = grind (arith, nat_tests)

  pub count_back : (most n : ℕ) → most ≤ 2 ^ 64 → n < most → tokens.count_of most (decimal n) ≡ Some n
  count_back most n le lt = ap (tokens.count_in most) (decimal_back n (omega arith)) ∙ rw (below n most lt) refl

  pub part_back : (p : Part) → part_fits p ≡ true → tokens.part_of (tokens.part_text p) ≡ Some p
  part_back p e =
      let t = parts_of (is_within p.by) (nat_lt p.variable (2 ^ 32)) e in
      let star = cut_behind 42 (signed_decimal p.by) (decimal p.variable)
      (weaken is_plain (λ c. not (eqb c 42)) plain_star (signed_decimal p.by) (number_plain (signed_decimal p.by) p.by (signed_back p.by t.0))) in
      rw (star, size_back p.by t.0, count_back (2 ^ 32) p.variable (omega arith) (is_below p.variable (2 ^ 32) t.1)) refl

  lacks_comma : (z : ℤ) → is_within z ≡ true → lacks 44 (signed_decimal z) ≡ true
  lacks_comma z e = weaken is_plain (λ c. not (eqb c 44)) plain_comma (signed_decimal z) (number_plain (signed_decimal z) z (signed_back z e))

  pub bound_last : (z : ℤ) → is_within z ≡ true → tokens.bound_of (signed_decimal z ++ []) ≡ Some (record { bound = z; more = false })
  bound_last z e = ap tokens.bound_of (append-nil (signed_decimal z)) ∙ rw (cut_lacking 44 (signed_decimal z) (lacks_comma z e), size_back z e) refl

  pub bound_more : (z : ℤ) → is_within z ≡ true → tokens.bound_of (signed_decimal z ++ 44 ∷ []) ≡ Some (record { bound = z; more = true })
  bound_more z e = rw (cut_behind 44 (signed_decimal z) [] (lacks_comma z e), size_back z e) refl

  pub ref_back : (r : Ref) → ref_fits r ≡ true → tokens.ref_of (tokens.ref_text r) ≡ Some r
  ref_back (Negated n) e = rw (count_back (2 ^ 32) n (omega arith) (is_below n (2 ^ 32) e)) refl
  ref_back (Low n) e = rw (count_back (2 ^ 32) n (omega arith) (is_below n (2 ^ 32) e)) refl
  ref_back (High n) e = rw (count_back (2 ^ 32) n (omega arith) (is_below n (2 ^ 32) e)) refl
  ref_back (Derived n) e = rw (count_back (2 ^ 32) n (omega arith) (is_below n (2 ^ 32) e)) refl

  narrow : (n : ℕ) → nat_lt n (2 ^ 32) ≡ true → n < 2 ^ 64
  narrow n e = grind (arith, nat_tests)

  pub ref_solid : (r : Ref) → ref_fits r ≡ true → is_solid (tokens.ref_text r) ≡ true
  ref_solid (Negated n) e = decimal_solid n (narrow n e)
  ref_solid (Low n) e = decimal_solid n (narrow n e)
  ref_solid (High n) e = decimal_solid n (narrow n e)
  ref_solid (Derived n) e = decimal_solid n (narrow n e)

  pub part_solid : (p : Part) → part_fits p ≡ true → is_solid (tokens.part_text p) ≡ true
  part_solid p e =
      let t = parts_of (is_within p.by) (nat_lt p.variable (2 ^ 32)) e in
      all_append (nat_le 33) (signed_decimal p.by) (42 ∷ decimal p.variable) (signed_solid p.by t.0) (decimal_solid p.variable (narrow p.variable t.1))
