-- What a fault says of the text that it stands at the front of.
use Rattle.std.proofs.Common.{◌≡◌, ℕ, zero, suc, ◌<◌, ◌^◌, ◌==◌, Bool, true, false, cond as if_then, [], ◌∷◌, ◌++◌, length, take, drop, Option, Some, None, refl, sym, ap, subst, ◌∙◌, arith, nat_le, codes}
use Rattle.std.proofs.lemmas.Bool.Decides.{nat_tests}
use Rattle.std.proofs.lemmas.List.{take-append-drop}
use Rattle.std.specs.Prelude.{slice_index}
use Rattle.lucy_lexer.specs.declared.bytes.Class.TheVariants as class
use Rattle.lucy_lexer.specs.declared.front.Front.{Front}
use Rattle.lucy_lexer.specs.declared.front.Front.TheVariants as front
use Rattle.lucy_lexer.specs.declared.token.TokenKind.{TokenKind}
use Rattle.lucy_lexer.specs.declared.token.TokenKind.TheVariants as k
use Rattle.lucy_lexer.specs.Bytes.{Text, is_in, run, value_of}
use Rattle.lucy_lexer.specs.Front.{foremost, word, digits, sign, pair_sign, comment_len, found, named, reserved, lookup, singles}
use Rattle.lucy_lexer.specs.Laws.{Spells, BeginsNothing, BeginsLongNumber, BeginsLongName}
use Rattle.lucy_lexer.proofs.Fronts.{first_taken, first_of_run, Case, is_blank, is_comment, is_word, is_number, is_sign, case_of, front_of_letter, front_of_digit}

-- ---- which answers a word, digits and a sign give

abbrev IsOfWord : Front → Type 0
IsOfWord (front.Found kind n) = Unit {0}
IsOfWord front.LongName = Unit {0}
IsOfWord _ = ⊥

word_gives : (z : Text) → IsOfWord (word z)
unfolding word
word_gives z = by (reserved (take (run class.WordByte z) z))
  where
    short : (t : Bool) → IsOfWord (if_then t (front.Found k.Name (run class.WordByte z)) front.LongName)
    short true = tt
    short false = tt

    by : (r : Option TokenKind) → IsOfWord (named (run class.WordByte z) r)
    by (Some j) = tt
    by None = short (nat_le (run class.WordByte z) 64)

abbrev IsOfDigits : Front → Type 0
IsOfDigits (front.Found kind n) = Unit {0}
IsOfDigits front.LongNumber = Unit {0}
IsOfDigits _ = ⊥

digits_give : (z : Text) → IsOfDigits (digits z)
unfolding digits
digits_give z = by (nat_le (value_of (take (run class.Digit z) z)) (2 ^ 62))
  where
    by : (t : Bool) → IsOfDigits (if_then t (front.Found (k.Number (value_of (take (run class.Digit z) z))) (run class.Digit z)) front.LongNumber)
    by true = tt
    by false = tt

-- a sign of two bytes, else one of a single byte, else a bad byte
abbrev IsOfSign : Front → Type 0
IsOfSign (front.Found kind n) = Unit {0}
IsOfSign front.BadByte = Unit {0}
IsOfSign _ = ⊥

sign_gives : (r s : Option TokenKind) → IsOfSign (found 2 r (found 1 s front.BadByte))
sign_gives (Some j) s = tt
sign_gives None (Some j) = tt
sign_gives None None = tt

sign_not_bad : (r : Option TokenKind) (j : TokenKind) → found 2 r (front.Found j 1) ≡ front.BadByte → ⊥
sign_not_bad (Some i) j e = cc
sign_not_bad None j e = cc

pair_not_bad : (j : TokenKind) → front.Found j 2 ≡ front.BadByte → ⊥
pair_not_bad j e = cc

-- ---- a byte that begins nothing

not_skipped : (z : Text) → foremost z ≡ front.BadByte → (is_in class.Blank (slice_index z 0) ≡ false) × ((slice_index z 0 == 35) ≡ false)
unfolding foremost
not_skipped z e = blank (is_in class.Blank (slice_index z 0)) refl e
  where
    hash : (t : Bool) → (slice_index z 0 == 35) ≡ t
        → if_then t (front.Skipped (comment_len z)) (if_then (is_in class.Letter (slice_index z 0)) (word z) (if_then (is_in class.Digit (slice_index z 0)) (digits z) (sign z))) ≡ front.BadByte → (slice_index z 0 == 35) ≡ false
    hash true is e = absurd cc
    hash false is e = is

    blank : (t : Bool) → is_in class.Blank (slice_index z 0) ≡ t
        → if_then t (front.Skipped 1) (if_then (slice_index z 0 == 35) (front.Skipped (comment_len z)) (if_then (is_in class.Letter (slice_index z 0)) (word z) (if_then (is_in class.Digit (slice_index z 0)) (digits z) (sign z)))) ≡ front.BadByte
        → (is_in class.Blank (slice_index z 0) ≡ false) × ((slice_index z 0 == 35) ≡ false)
    blank true is e = absurd cc
    blank false is e = (is, hash (slice_index z 0 == 35) refl e)

module _ (z : Text) (bad : foremost z ≡ front.BadByte) (n : ℕ) where
  by_letter : (w : Text) → take n z ≡ w → is_in class.Letter (slice_index w 0) ≡ true → ⊥
  by_letter w is letter = positive n refl
    where
      positive : (l : ℕ) → n ≡ l → ⊥
      positive zero e = no_letter (subst (λ (y : Text). is_in class.Letter (slice_index y 0) ≡ true) (sym is ∙ ap (λ i. take i z) e) letter)
        where
          no_letter : is_in class.Letter (slice_index [] 0) ≡ true → ⊥
          no_letter h = cc
      positive (suc l) e =
          let first : is_in class.Letter (slice_index z 0) ≡ true = rw (← (first_taken n z (omega arith))) (rw is letter) in
          subst IsOfWord (sym (front_of_letter z first) ∙ bad) (word_gives z)

  by_digits : (w : Text) → take n z ≡ w → 0 < length w → run class.Digit w ≡ length w → ⊥
  by_digits w is some all = positive n refl
    where
      positive : (l : ℕ) → n ≡ l → ⊥
      positive zero e =
          let nothing : w ≡ [] = sym is ∙ ap (λ i. take i z) e in
          let none : length w ≡ 0 = ap length nothing in
          omega arith
      positive (suc l) e =
          let first : is_in class.Digit (slice_index z 0) ≡ true = rw (← (first_taken n z (omega arith))) (rw is (first_of_run class.Digit w some all)) in
          subst IsOfDigits (sym (front_of_digit z first) ∙ bad) (digits_give z)

  -- what the text begins with is no bad byte
  by_front : (w : Text) → take n z ≡ w → (foremost (w ++ drop n z) ≡ front.BadByte → ⊥) → ⊥
  by_front w is other =
      let whole : take n z ++ drop n z ≡ z = take-append-drop n z in
      other (ap (λ v. foremost (v ++ drop n z)) (sym is) ∙ ap foremost whole ∙ bad)

  pub nothing_spelled : (j : TokenKind) → Spells j (take n z) → ⊥
  unfolding foremost sign pair_sign
  nothing_spelled k.Name h = by_letter (take n z) refl h.letter
  nothing_spelled (k.Number v) h = by_digits (take n z) refl h.some h.digits
  nothing_spelled k.OpenBrace h = by_front (codes "{") h (sign_not_bad _ k.OpenBrace)
  nothing_spelled k.CloseBrace h = by_front (codes "}") h (sign_not_bad _ k.CloseBrace)
  nothing_spelled k.OpenParen h = by_front (codes "(") h (sign_not_bad _ k.OpenParen)
  nothing_spelled k.CloseParen h = by_front (codes ")") h (sign_not_bad _ k.CloseParen)
  nothing_spelled k.Semicolon h = by_front (codes ";") h (sign_not_bad _ k.Semicolon)
  nothing_spelled k.Comma h = by_front (codes ",") h (sign_not_bad _ k.Comma)
  nothing_spelled k.Dot h = by_front (codes ".") h (sign_not_bad _ k.Dot)
  nothing_spelled k.DotDot h = by_front (codes "..") h (pair_not_bad k.DotDot)
  nothing_spelled k.Equal h = by_front (codes "=") h (sign_not_bad _ k.Equal)
  nothing_spelled k.Assign h = by_front (codes ":=") h (pair_not_bad k.Assign)
  nothing_spelled k.NotEqual h = by_front (codes "!=") h (pair_not_bad k.NotEqual)
  nothing_spelled k.LessEqual h = by_front (codes "<=") h (pair_not_bad k.LessEqual)
  nothing_spelled k.Less h = by_front (codes "<") h (sign_not_bad _ k.Less)
  nothing_spelled k.GreaterEqual h = by_front (codes ">=") h (pair_not_bad k.GreaterEqual)
  nothing_spelled k.Greater h = by_front (codes ">") h (sign_not_bad _ k.Greater)
  nothing_spelled k.Arrow h = by_front (codes "=>") h (pair_not_bad k.Arrow)
  nothing_spelled k.Plus h = by_front (codes "+") h (sign_not_bad _ k.Plus)
  nothing_spelled k.Minus h = by_front (codes "-") h (sign_not_bad _ k.Minus)
  nothing_spelled k.Star h = by_front (codes "*") h (sign_not_bad _ k.Star)
  nothing_spelled k.Lucy h = by_letter (codes "lucy") h refl
  nothing_spelled k.Object h = by_letter (codes "object") h refl
  nothing_spelled k.Max h = by_letter (codes "max") h refl
  nothing_spelled k.Min h = by_letter (codes "min") h refl
  nothing_spelled k.OrFlag h = by_letter (codes "orflag") h refl
  nothing_spelled k.AndFlag h = by_letter (codes "andflag") h refl
  nothing_spelled k.Set h = by_letter (codes "set") h refl
  nothing_spelled k.Pair h = by_letter (codes "pair") h refl
  nothing_spelled k.Start h = by_letter (codes "start") h refl
  nothing_spelled k.Invariant h = by_letter (codes "invariant") h refl
  nothing_spelled k.Txn h = by_letter (codes "txn") h refl
  nothing_spelled k.When h = by_letter (codes "when") h refl
  nothing_spelled k.Segment h = by_letter (codes "segment") h refl
  nothing_spelled k.Except h = by_letter (codes "except") h refl
  nothing_spelled k.Do h = by_letter (codes "do") h refl
  nothing_spelled k.Depth h = by_letter (codes "depth") h refl
  nothing_spelled k.End h = by_letter (codes "end") h refl
  nothing_spelled k.In h = by_letter (codes "in") h refl
  nothing_spelled k.Not h = by_letter (codes "not") h refl
  nothing_spelled k.And h = by_letter (codes "and") h refl
  nothing_spelled k.Or h = by_letter (codes "or") h refl
  nothing_spelled k.True h = by_letter (codes "true") h refl
  nothing_spelled k.False h = by_letter (codes "false") h refl
  nothing_spelled k.On h = by_letter (codes "on") h refl
  nothing_spelled k.Off h = by_letter (codes "off") h refl
  nothing_spelled k.Size h = by_letter (codes "size") h refl
  nothing_spelled k.Insert h = by_letter (codes "insert") h refl
  nothing_spelled k.Into h = by_letter (codes "into") h refl

pub bad_byte : (z : Text) → 0 < length z → foremost z ≡ front.BadByte → BeginsNothing z
bad_byte z some e = let skipped = not_skipped z e in record {
  some = some;
  no_blank = skipped.0;
  no_comment = skipped.1;
  no_token = λ kind n h. nothing_spelled z e n kind h;
}

-- ---- a number and a name that are too long

digits_large : (z : Text) → digits z ≡ front.LongNumber → 2 ^ 62 < value_of (take (run class.Digit z) z)
unfolding digits
digits_large z e = by (nat_le (value_of (take (run class.Digit z) z)) (2 ^ 62)) refl e
  where
    by : (t : Bool) → nat_le (value_of (take (run class.Digit z) z)) (2 ^ 62) ≡ t → if_then t (front.Found (k.Number (value_of (take (run class.Digit z) z))) (run class.Digit z)) front.LongNumber ≡ front.LongNumber → 2 ^ 62 < value_of (take (run class.Digit z) z)
    by true is e = absurd cc
    by false is e = grind (arith, nat_tests)

pub long_number : (z : Text) → foremost z ≡ front.LongNumber → BeginsLongNumber z
unfolding sign
long_number z e = by (case_of z front.LongNumber e)
  where
    by : Case z front.LongNumber → BeginsLongNumber z
    by (is_blank is e) = absurd cc
    by (is_comment is e) = absurd cc
    by (is_word is e) = absurd (subst IsOfWord e (word_gives z))
    by (is_number is e) = record { digit = is; large = digits_large z e }
    by (is_sign e) = absurd (subst IsOfSign e (sign_gives (pair_sign z) (lookup singles (slice_index z 0 ∷ []))))

word_long : (z : Text) → word z ≡ front.LongName → (64 < run class.WordByte z) × (reserved (take (run class.WordByte z) z) ≡ None)
unfolding word
word_long z e = by (reserved (take (run class.WordByte z) z)) refl e
  where
    long : (t : Bool) → nat_le (run class.WordByte z) 64 ≡ t → if_then t (front.Found k.Name (run class.WordByte z)) front.LongName ≡ front.LongName → 64 < run class.WordByte z
    long true is e = absurd cc
    long false is e = grind (arith, nat_tests)

    by : (r : Option TokenKind) → reserved (take (run class.WordByte z) z) ≡ r → named (run class.WordByte z) r ≡ front.LongName
        → (64 < run class.WordByte z) × (reserved (take (run class.WordByte z) z) ≡ None)
    by (Some j) is e = absurd cc
    by None is e = (long (nat_le (run class.WordByte z) 64) refl e, is)

pub long_name : (z : Text) → foremost z ≡ front.LongName → BeginsLongName z
unfolding sign
long_name z e = by (case_of z front.LongName e)
  where
    by : Case z front.LongName → BeginsLongName z
    by (is_blank is e) = absurd cc
    by (is_comment is e) = absurd cc
    by (is_word is e) = let long = word_long z e in record { letter = is; long = long.0; free = long.1 }
    by (is_number is e) = absurd (subst IsOfDigits e (digits_give z))
    by (is_sign e) = absurd (subst IsOfSign e (sign_gives (pair_sign z) (lookup singles (slice_index z 0 ∷ []))))
