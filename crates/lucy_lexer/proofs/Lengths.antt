-- How far what stands at the front goes.
use Rattle.std.proofs.Common.{◌≡◌, ℕ, zero, suc, ◌+◌, ◌≤◌, ◌<◌, ◌^◌, ◌==◌, Bool, true, false, cond as if_then, [], ◌∷◌, ◌++◌, length, take, drop, Option, Some, None, refl, sym, ap, subst, ◌∙◌, arith, nat_le, nat_lt, codes}
use Rattle.std.proofs.lemmas.Bool.Decides.{nat_tests}
use Rattle.std.proofs.lemmas.List.{take-append-drop, take_at, length-take-le}
use Rattle.std.specs.Prelude.{slice_index}
use Rattle.lucy_lexer.specs.declared.bytes.Class.{Class}
use Rattle.lucy_lexer.specs.declared.bytes.Class.TheVariants as class
use Rattle.lucy_lexer.specs.declared.front.Front.{Front}
use Rattle.lucy_lexer.specs.declared.front.Front.TheVariants as front
use Rattle.lucy_lexer.specs.declared.token.TokenKind.{TokenKind}
use Rattle.lucy_lexer.specs.declared.token.TokenKind.TheVariants as k
use Rattle.lucy_lexer.specs.Bytes.{Text, is_in, run, value_of}
use Rattle.lucy_lexer.specs.Front.{foremost, word, digits, sign, pair_sign, comment_len, found, named, reserved, lookup, singles, IsWithin}
use Rattle.lucy_lexer.specs.Laws.{IsName, IsNumber, Spells, Separator, space, line_end, separator_byte}
use Rattle.lucy_lexer.proofs.Fronts.{run_within, run_positive, run_longer, run_ends, first_taken, first_of_run, letter_is_word, Case, is_blank, is_comment, is_word, is_number, is_sign, case_of, front_of_letter, front_of_digit}

-- ---- what was found ends within the text

named_within : (z : Text) (len : ℕ) (r : Option TokenKind) → 1 ≤ len → len ≤ length z → IsWithin z (named len r)
named_within z len (Some kind) some within = (some, within)
named_within z len None some within = by (nat_le len 64)
  where
    by : (t : Bool) → IsWithin z (if_then t (front.Found k.Name len) front.LongName)
    by true = (some, within)
    by false = tt

word_within : (z : Text) → 0 < length z → is_in class.Letter (slice_index z 0) ≡ true → IsWithin z (word z)
unfolding word
word_within z some letter =
    let more : 0 < run class.WordByte z = run_positive class.WordByte z some (letter_is_word (slice_index z 0) letter) in
    named_within z (run class.WordByte z) (reserved (take (run class.WordByte z) z)) (omega arith) (run_within class.WordByte z)

digits_within : (z : Text) → 0 < length z → is_in class.Digit (slice_index z 0) ≡ true → IsWithin z (digits z)
unfolding digits
digits_within z some digit = by (nat_le (value_of (take (run class.Digit z) z)) (2 ^ 62))
  where
    by : (t : Bool) → IsWithin z (if_then t (front.Found (k.Number (value_of (take (run class.Digit z) z))) (run class.Digit z)) front.LongNumber)
    by true = (let more : 0 < run class.Digit z = run_positive class.Digit z some digit in omega arith, run_within class.Digit z)
    by false = tt

sign_within : (z : Text) → 0 < length z → IsWithin z (sign z)
unfolding sign pair_sign
sign_within z some = by (pair_sign z) refl
  where
    two : (y : Text) (j : TokenKind) → pair_sign y ≡ Some j → 2 ≤ length y
    two [] j e = absurd cc
    two (a ∷ []) j e = absurd cc
    two (a ∷ b ∷ y) j e = omega arith

    single : (r : Option TokenKind) → IsWithin z (found 1 r front.BadByte)
    single (Some j) = (omega arith, omega arith)
    single None = tt

    by : (r : Option TokenKind) → pair_sign z ≡ r → IsWithin z (found 2 r (found 1 (lookup singles (slice_index z 0 ∷ [])) front.BadByte))
    by (Some j) is = (omega arith, two z j is)
    by None is = single (lookup singles (slice_index z 0 ∷ []))

comment_within : (z : Text) → 0 < length z → (slice_index z 0 == 35) ≡ true → IsWithin z (front.Skipped (comment_len z))
unfolding comment_len
comment_within z some hash = by (nat_lt (run class.InLine z) (length z)) refl
  where
    by : (t : Bool) → nat_lt (run class.InLine z) (length z) ≡ t → IsWithin z (front.Skipped (if_then t (run class.InLine z + 1) (run class.InLine z)))
    by true is = (omega arith, grind (arith, nat_tests))
    by false is = (
      let in_line : is_in class.InLine (slice_index z 0) ≡ true = grind (arith, nat_tests) in
          let more : 0 < run class.InLine z = run_positive class.InLine z some in_line in omega arith,
      run_within class.InLine z,
    )

pub front_within : (z : Text) → 0 < length z → (f : Front) → foremost z ≡ f → IsWithin z f
front_within z some f e = by (case_of z f e)
  where
    by : Case z f → IsWithin z f
    by (is_blank is e) = subst (λ (g : Front). IsWithin z g) e (omega arith, omega arith)
    by (is_comment is e) = subst (λ (g : Front). IsWithin z g) e (comment_within z some is)
    by (is_word is e) = subst (λ (g : Front). IsWithin z g) e (word_within z some is)
    by (is_number is e) = subst (λ (g : Front). IsWithin z g) e (digits_within z some is)
    by (is_sign e) = subst (λ (g : Front). IsWithin z g) e (sign_within z some)

-- ---- the longest token

pub word_len : (z : Text) (kind : TokenKind) (n : ℕ) → word z ≡ front.Found kind n → n ≡ run class.WordByte z
unfolding word
word_len z kind n e = by (reserved (take (run class.WordByte z) z)) e
  where
    short : (t : Bool) → if_then t (front.Found k.Name (run class.WordByte z)) front.LongName ≡ front.Found kind n → n ≡ run class.WordByte z
    short true e = cc
    short false e = absurd cc

    by : (r : Option TokenKind) → named (run class.WordByte z) r ≡ front.Found kind n → n ≡ run class.WordByte z
    by (Some j) e = cc
    by None e = short (nat_le (run class.WordByte z) 64) e

pub digits_len : (z : Text) (kind : TokenKind) (n : ℕ) → digits z ≡ front.Found kind n → n ≡ run class.Digit z
unfolding digits
digits_len z kind n e = by (nat_le (value_of (take (run class.Digit z) z)) (2 ^ 62)) e
  where
    by : (t : Bool) → if_then t (front.Found (k.Number (value_of (take (run class.Digit z) z))) (run class.Digit z)) front.LongNumber ≡ front.Found kind n → n ≡ run class.Digit z
    by true e = cc
    by false e = absurd cc

pub found_len : (i j : TokenKind) (m n : ℕ) → front.Found i m ≡ front.Found j n → m ≡ n
found_len i j m n e = cc

module _ (z : Text) (kind : TokenKind) (n : ℕ) (found_there : foremost z ≡ front.Found kind n) (m : ℕ) (below : m ≤ length z) where
  by_word : (w : Text) → take m z ≡ w → is_in class.Letter (slice_index w 0) ≡ true → run class.WordByte w ≡ length w → m ≤ n
  by_word w is letter all = positive m refl
    where
      positive : (l : ℕ) → m ≡ l → m ≤ n
      positive zero e = omega arith
      positive (suc l) e =
          let first : is_in class.Letter (slice_index z 0) ≡ true = rw (← (first_taken m z (omega arith))) (rw is letter) in
          let len : n ≡ run class.WordByte z = word_len z kind n (sym (front_of_letter z first) ∙ found_there) in
          let far : m ≤ run class.WordByte z = run_longer class.WordByte m z below (rw is all) in
          omega arith

  by_number : 0 < length (take m z) → run class.Digit (take m z) ≡ length (take m z) → m ≤ n
  by_number some all =
      let long : length (take m z) ≡ m = length-take-le m z below in
      let first : is_in class.Digit (slice_index z 0) ≡ true = rw (← (first_taken m z (omega arith))) (first_of_run class.Digit (take m z) some all) in
      let len : n ≡ run class.Digit z = digits_len z kind n (sym (front_of_digit z first) ∙ found_there) in
      let far : m ≤ run class.Digit z = run_longer class.Digit m z below all in
      omega arith

  by_single : (w : Text) → take m z ≡ w → length w ≡ 1 → m ≤ n
  by_single w is one =
      let long : length (take m z) ≡ m = length-take-le m z below in
      let same : length (take m z) ≡ length w = ap length is in
      let w : IsWithin z (front.Found kind n) = front_within z (omega arith) (front.Found kind n) found_there in
      omega (arith, w.0)

  by_pair : (w : Text) (j : TokenKind) → take m z ≡ w → length w ≡ 2 → foremost (w ++ drop m z) ≡ front.Found j 2 → m ≤ n
  by_pair w j is two there =
      let long : length (take m z) ≡ m = length-take-le m z below in
      let same : length (take m z) ≡ length w = ap length is in
      let whole : take m z ++ drop m z ≡ z = take-append-drop m z in
      let e : foremost (w ++ drop m z) ≡ front.Found kind n = ap (λ v. foremost (v ++ drop m z)) (sym is) ∙ ap foremost whole ∙ found_there in
      let len : 2 ≡ n = found_len j kind 2 n (sym there ∙ e) in
      omega arith

  -- a token of any kind that the text spells at its front is no longer than what was found
  pub longest : (j : TokenKind) → Spells j (take m z) → m ≤ n
  unfolding foremost sign pair_sign
  longest k.Name h = by_word (take m z) refl h.letter h.others
  longest (k.Number v) h = by_number h.some h.digits
  longest k.OpenBrace h = by_single (codes "{") h refl
  longest k.CloseBrace h = by_single (codes "}") h refl
  longest k.OpenParen h = by_single (codes "(") h refl
  longest k.CloseParen h = by_single (codes ")") h refl
  longest k.Semicolon h = by_single (codes ";") h refl
  longest k.Comma h = by_single (codes ",") h refl
  longest k.Dot h = by_single (codes ".") h refl
  longest k.DotDot h = by_pair (codes "..") k.DotDot h refl refl
  longest k.Equal h = by_single (codes "=") h refl
  longest k.Assign h = by_pair (codes ":=") k.Assign h refl refl
  longest k.NotEqual h = by_pair (codes "!=") k.NotEqual h refl refl
  longest k.LessEqual h = by_pair (codes "<=") k.LessEqual h refl refl
  longest k.Less h = by_single (codes "<") h refl
  longest k.GreaterEqual h = by_pair (codes ">=") k.GreaterEqual h refl refl
  longest k.Greater h = by_single (codes ">") h refl
  longest k.Arrow h = by_pair (codes "=>") k.Arrow h refl refl
  longest k.Plus h = by_single (codes "+") h refl
  longest k.Minus h = by_single (codes "-") h refl
  longest k.Star h = by_single (codes "*") h refl
  longest k.Lucy h = by_word (codes "lucy") h refl refl
  longest k.Object h = by_word (codes "object") h refl refl
  longest k.Max h = by_word (codes "max") h refl refl
  longest k.Min h = by_word (codes "min") h refl refl
  longest k.OrFlag h = by_word (codes "orflag") h refl refl
  longest k.AndFlag h = by_word (codes "andflag") h refl refl
  longest k.Set h = by_word (codes "set") h refl refl
  longest k.Pair h = by_word (codes "pair") h refl refl
  longest k.Start h = by_word (codes "start") h refl refl
  longest k.Invariant h = by_word (codes "invariant") h refl refl
  longest k.Txn h = by_word (codes "txn") h refl refl
  longest k.When h = by_word (codes "when") h refl refl
  longest k.Segment h = by_word (codes "segment") h refl refl
  longest k.Except h = by_word (codes "except") h refl refl
  longest k.Do h = by_word (codes "do") h refl refl
  longest k.Depth h = by_word (codes "depth") h refl refl
  longest k.End h = by_word (codes "end") h refl refl
  longest k.In h = by_word (codes "in") h refl refl
  longest k.Not h = by_word (codes "not") h refl refl
  longest k.And h = by_word (codes "and") h refl refl
  longest k.Or h = by_word (codes "or") h refl refl
  longest k.True h = by_word (codes "true") h refl refl
  longest k.False h = by_word (codes "false") h refl refl
  longest k.On h = by_word (codes "on") h refl refl
  longest k.Off h = by_word (codes "off") h refl refl
  longest k.Size h = by_word (codes "size") h refl refl
  longest k.Insert h = by_word (codes "insert") h refl refl
  longest k.Into h = by_word (codes "into") h refl refl

-- ---- a token with a separator after it

separator_ends : (c : Class) (s : Separator) → is_in c 32 ≡ false → is_in c 10 ≡ false → is_in c (separator_byte s) ≡ false
separator_ends c space a b = a
separator_ends c line_end a b = b

first_appended : (w y : Text) → 0 < length w → slice_index (w ++ y) 0 ≡ slice_index w 0
first_appended [] y some = absurd (omega arith)
first_appended (b ∷ w) y some = refl

name_spaced : (w : Text) (s : Separator) (rest : Text) → IsName w → foremost (w ++ separator_byte s ∷ rest) ≡ front.Found k.Name (length w)
unfolding word
name_spaced w s rest h =
    let z = w ++ separator_byte s ∷ rest in
    let some : 0 < length w = not_empty w h.letter in
    let letter : is_in class.Letter (slice_index z 0) ≡ true = rw (first_appended w (separator_byte s ∷ rest) some) h.letter in
    let len : run class.WordByte z ≡ length w = run_ends class.WordByte w (separator_byte s) rest h.others (separator_ends class.WordByte s refl refl) in
    let short : nat_le (length w) 64 ≡ true = let small : length w ≤ 64 = h.short in grind (arith, nat_tests) in
    front_of_letter z letter
    ∙ ap (λ n. named n (reserved (take n z))) len
    ∙ ap (λ v. named (length w) (reserved v)) (take_at w (separator_byte s ∷ rest) (length w) refl)
    ∙ ap (named (length w)) h.free
    ∙ rw short refl
  where
    not_empty : (y : Text) → is_in class.Letter (slice_index y 0) ≡ true → 0 < length y
    not_empty [] e = absurd cc
    not_empty (b ∷ y) e = omega arith

number_spaced : (v : ℕ) (w : Text) (s : Separator) (rest : Text) → IsNumber v w → foremost (w ++ separator_byte s ∷ rest) ≡ front.Found (k.Number v) (length w)
unfolding digits
number_spaced v w s rest h =
    let z = w ++ separator_byte s ∷ rest in
    let digit : is_in class.Digit (slice_index z 0) ≡ true = rw (first_appended w (separator_byte s ∷ rest) h.some) (first_of_run class.Digit w h.some h.digits) in
    let len : run class.Digit z ≡ length w = run_ends class.Digit w (separator_byte s) rest h.digits (separator_ends class.Digit s refl refl) in
    let low : nat_le v (2 ^ 62) ≡ true = let small : v ≤ 2 ^ 62 = h.small in grind (arith, nat_tests) in
    front_of_digit z digit
    ∙ ap (λ n. if_then (nat_le (value_of (take n z)) (2 ^ 62)) (front.Found (k.Number (value_of (take n z))) n) front.LongNumber) len
    ∙ ap (λ y. if_then (nat_le (value_of y) (2 ^ 62)) (front.Found (k.Number (value_of y)) (length w)) front.LongNumber) (take_at w (separator_byte s ∷ rest) (length w) refl)
    ∙ ap (λ x. if_then (nat_le x (2 ^ 62)) (front.Found (k.Number x) (length w)) front.LongNumber) h.value
    ∙ rw low refl

pub found_spaced : (kind : TokenKind) (w : Text) (s : Separator) (rest : Text) → Spells kind w → foremost (w ++ separator_byte s ∷ rest) ≡ front.Found kind (length w)
unfolding foremost sign pair_sign word reserved
found_spaced k.Name w s rest h = name_spaced w s rest h
found_spaced (k.Number n) w s rest h = number_spaced n w s rest h
found_spaced kind w space rest h = let P : Text → Type 0 = λ v. foremost (v ++ 32 ∷ rest) ≡ front.Found kind (length v) in subst P (sym h) refl
found_spaced kind w line_end rest h = let P : Text → Type 0 = λ v. foremost (v ++ 10 ∷ rest) ≡ front.Found kind (length v) in subst P (sym h) refl
