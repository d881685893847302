-- What stands at the front of a text, class by class of its first byte.
use Rattle.std.proofs.Common.{◌≡◌, ℕ, zero, suc, ◌+◌, ◌≤◌, ◌<◌, ◌^◌, ◌==◌, Bool, true, false, cond as if_then, List, [], ◌∷◌, ◌++◌, length, take, Option, Some, None, refl, sym, subst, ◌∙◌, arith, nat_le}
use Rattle.std.proofs.lemmas.Bool.Decides.{nat_tests}
use Rattle.std.proofs.lemmas.List.{length-take-le}
use Rattle.std.proofs.lemmas.List.Sums.{prefix_len-le-length}
use Rattle.std.proofs.lemmas.Slice.Eq.{bytes_eq-Decides}
use Rattle.std.specs.List.{AllByRecursion}
use Rattle.std.specs.Str.{bytes_eq}
use Rattle.std.specs.Prelude.{slice_index}
use Rattle.lucy_lexer.specs.declared.bytes.Class.{Class}
use Rattle.lucy_lexer.specs.declared.bytes.Class.TheVariants as class
use Rattle.lucy_lexer.specs.declared.front.Front.{Front}
use Rattle.lucy_lexer.specs.declared.front.Front.TheVariants as front
use Rattle.lucy_lexer.specs.declared.token.TokenKind.{TokenKind}
use Rattle.lucy_lexer.specs.declared.token.TokenKind.TheVariants as k
use Rattle.lucy_lexer.specs.Bytes.{Text, is_in, run, value_of}
use Rattle.lucy_lexer.specs.Front.{foremost, word, digits, sign, pair_sign, comment_len, found, named, reserved, lookup, words, pairs, singles}
use Rattle.lucy_lexer.specs.Laws.{IsName, Spells}

-- ---- runs

pub run_within : (c : Class) (z : Text) → run c z ≤ length z
run_within c z = prefix_len-le-length (is_in c) z

pub run_positive : (c : Class) (z : Text) → 0 < length z → is_in c (slice_index z 0) ≡ true → 0 < run c z
run_positive c [] some is = absurd (omega arith)
run_positive c (b ∷ z) some is = rw is (omega arith)

-- the front of a run is a run
pub run_take : (c : Class) (n : ℕ) (z : Text) → n ≤ run c z → run c (take n z) ≡ n
run_take c zero z h = refl
run_take c (suc n) [] h = absurd (omega arith)
run_take c (suc n) (b ∷ z) h = by (is_in c b) refl h (λ i. run_take c n z i)
  where
    by : (t : Bool) → is_in c b ≡ t → suc n ≤ if_then t (1 + run c z) 0 → (n ≤ run c z → run c (take n z) ≡ n) → if_then (is_in c b) (1 + run c (take n z)) 0 ≡ suc n
    by true e h more = rw e (let m : run c (take n z) ≡ n = more (omega arith) in omega arith)
    by false e h more = absurd (omega arith)

-- what goes all through the front goes on at least as far in the whole
pub run_longer : (c : Class) (n : ℕ) (z : Text) → n ≤ length z → run c (take n z) ≡ length (take n z) → n ≤ run c z
run_longer c zero z h e = omega arith
run_longer c (suc n) [] h e = absurd (omega arith)
run_longer c (suc n) (b ∷ z) h e = by (is_in c b) refl e (λ i. run_longer c n z (omega arith) i)
  where
    by : (t : Bool) → is_in c b ≡ t → if_then t (1 + run c (take n z)) 0 ≡ suc (length (take n z)) → (run c (take n z) ≡ length (take n z) → n ≤ run c z) → suc n ≤ if_then (is_in c b) (1 + run c z) 0
    by true is e more = rw is (let m : n ≤ run c z = more (omega arith) in omega arith)
    by false is e more = absurd (omega arith)

-- a run ends where a byte of another class comes
pub run_ends : (c : Class) (w : Text) (b : ℕ) (rest : Text) → run c w ≡ length w → is_in c b ≡ false → run c (w ++ b ∷ rest) ≡ length w
run_ends c [] b rest all other = rw other refl
run_ends c (x ∷ w) b rest all other = by (is_in c x) refl all (λ i. run_ends c w b rest i other)
  where
    by : (t : Bool) → is_in c x ≡ t → if_then t (1 + run c w) 0 ≡ suc (length w) → (run c w ≡ length w → run c (w ++ b ∷ rest) ≡ length w) → if_then (is_in c x) (1 + run c (w ++ b ∷ rest)) 0 ≡ suc (length w)
    by true is all more = rw is (let m : run c (w ++ b ∷ rest) ≡ length w = more (omega arith) in omega arith)
    by false is all more = absurd (omega arith)

-- where a run goes all through a text, the first byte is of its class
pub first_of_run : (c : Class) (w : Text) → 0 < length w → run c w ≡ length w → is_in c (slice_index w 0) ≡ true
first_of_run c [] some all = absurd (omega arith)
first_of_run c (b ∷ w) some all = by (is_in c b) refl all
  where
    by : (t : Bool) → is_in c b ≡ t → if_then t (1 + run c w) 0 ≡ suc (length w) → is_in c b ≡ true
    by true is all = is
    by false is all = absurd (omega arith)

pub first_taken : (n : ℕ) (z : Text) → 0 < n → slice_index (take n z) 0 ≡ slice_index z 0
first_taken zero z h = absurd (omega arith)
first_taken (suc n) [] h = refl
first_taken (suc n) (b ∷ z) h = refl

-- ---- classes

pub letter_is_word : (b : ℕ) → is_in class.Letter b ≡ true → is_in class.WordByte b ≡ true
letter_is_word b h = grind (arith, nat_tests)

letter_no_blank : (b : ℕ) → is_in class.Letter b ≡ true → is_in class.Blank b ≡ false
letter_no_blank b h = grind (arith, nat_tests)

letter_no_hash : (b : ℕ) → is_in class.Letter b ≡ true → (b == 35) ≡ false
letter_no_hash b h = grind (arith, nat_tests)

digit_no_blank : (b : ℕ) → is_in class.Digit b ≡ true → is_in class.Blank b ≡ false
digit_no_blank b h = grind (arith, nat_tests)

digit_no_hash : (b : ℕ) → is_in class.Digit b ≡ true → (b == 35) ≡ false
digit_no_hash b h = grind (arith, nat_tests)

digit_no_letter : (b : ℕ) → is_in class.Digit b ≡ true → is_in class.Letter b ≡ false
digit_no_letter b h = grind (arith, nat_tests)

-- ---- the front, class by class

pub data Case (z : Text) (f : Front) : Type 0 where
  is_blank : is_in class.Blank (slice_index z 0) ≡ true → front.Skipped 1 ≡ f → Case z f
  is_comment : (slice_index z 0 == 35) ≡ true → front.Skipped (comment_len z) ≡ f → Case z f
  is_word : is_in class.Letter (slice_index z 0) ≡ true → word z ≡ f → Case z f
  is_number : is_in class.Digit (slice_index z 0) ≡ true → digits z ≡ f → Case z f
  is_sign : sign z ≡ f → Case z f

pub case_of : (z : Text) (f : Front) → foremost z ≡ f → Case z f
unfolding foremost
case_of z f e = blank (is_in class.Blank (slice_index z 0)) refl e
  where
    digit : (t : Bool) → is_in class.Digit (slice_index z 0) ≡ t → if_then t (digits z) (sign z) ≡ f → Case z f
    digit true is e = is_number is e
    digit false is e = is_sign e

    letter : (t : Bool) → is_in class.Letter (slice_index z 0) ≡ t → if_then t (word z) (if_then (is_in class.Digit (slice_index z 0)) (digits z) (sign z)) ≡ f → Case z f
    letter true is e = is_word is e
    letter false is e = digit (is_in class.Digit (slice_index z 0)) refl e

    hash : (t : Bool) → (slice_index z 0 == 35) ≡ t
        → if_then t (front.Skipped (comment_len z)) (if_then (is_in class.Letter (slice_index z 0)) (word z) (if_then (is_in class.Digit (slice_index z 0)) (digits z) (sign z))) ≡ f → Case z f
    hash true is e = is_comment is e
    hash false is e = letter (is_in class.Letter (slice_index z 0)) refl e

    blank : (t : Bool) → is_in class.Blank (slice_index z 0) ≡ t
        → if_then t (front.Skipped 1) (if_then (slice_index z 0 == 35) (front.Skipped (comment_len z)) (if_then (is_in class.Letter (slice_index z 0)) (word z) (if_then (is_in class.Digit (slice_index z 0)) (digits z) (sign z)))) ≡ f → Case z f
    blank true is e = is_blank is e
    blank false is e = hash (slice_index z 0 == 35) refl e

pub front_of_letter : (z : Text) → is_in class.Letter (slice_index z 0) ≡ true → foremost z ≡ word z
unfolding foremost
front_of_letter z is = rw (letter_no_blank (slice_index z 0) is) (rw (letter_no_hash (slice_index z 0) is) (rw is refl))

pub front_of_digit : (z : Text) → is_in class.Digit (slice_index z 0) ≡ true → foremost z ≡ digits z
unfolding foremost
front_of_digit z is = rw (digit_no_blank (slice_index z 0) is) (rw (digit_no_hash (slice_index z 0) is) (rw (digit_no_letter (slice_index z 0) is) (rw is refl)))

-- ---- tables

lookup_spells : (es : List (Text × TokenKind)) → AllByRecursion (λ e. Spells e.1 e.0) es → (w : Text) (kind : TokenKind) → lookup es w ≡ Some kind → Spells kind w
lookup_spells [] all w kind e = absurd cc
lookup_spells (x ∷ es) all w kind e = by (bytes_eq x.0 w) refl e (λ i. lookup_spells es all.1 w kind i)
  where
    by : (t : Bool) → bytes_eq x.0 w ≡ t → if_then t (Some x.1) (lookup es w) ≡ Some kind → (lookup es w ≡ Some kind → Spells kind w) → Spells kind w
    by true same e more =
        let same_text : x.0 ≡ w = (bytes_eq-Decides x.0 w).0 same in
        let same_kind : x.1 ≡ kind = cc in
        let P : Text → Type 0 = λ v. Spells x.1 v in
        let Q : TokenKind → Type 0 = λ j. Spells j w in
        subst Q same_kind (subst P same_text all.0)
    by false other e more = more e

words_spelled : AllByRecursion (λ e. Spells e.1 e.0) words
words_spelled = (refl, (refl, (refl, (refl, (refl, (refl, (refl, (refl, (refl, (refl, (refl, (refl, (refl, (refl, (refl, (refl, (refl, (refl, (refl, (refl, (refl, (refl, (refl, (refl, (refl, (refl, (refl, (refl, tt))))))))))))))))))))))))))))

pairs_spelled : AllByRecursion (λ e. Spells e.1 e.0) pairs
pairs_spelled = (refl, (refl, (refl, (refl, (refl, (refl, tt))))))

singles_spelled : AllByRecursion (λ e. Spells e.1 e.0) singles
singles_spelled = (refl, (refl, (refl, (refl, (refl, (refl, (refl, (refl, (refl, (refl, (refl, (refl, (refl, tt)))))))))))))

-- ---- what was found is spelled

name_spells : (z : Text) (n : ℕ) → 0 < n → is_in class.Letter (slice_index z 0) ≡ true → n ≡ run class.WordByte z → n ≤ 64 → reserved (take n z) ≡ None → IsName (take n z)
name_spells z n some letter len small free = record {
  letter = rw (first_taken n z some) letter;
  others = run_take class.WordByte n z (omega arith) ∙ sym (length-take-le n z (omega (arith, run_within class.WordByte z)));
  short = rw (length-take-le n z (omega (arith, run_within class.WordByte z))) small;
  free = free;
}

found_parts : (i j : TokenKind) (m n : ℕ) → front.Found i m ≡ front.Found j n → (i ≡ j) × (m ≡ n)
found_parts i j m n e = (cc, cc)

-- what holds of a kind and a length holds of those that were found
as_found : (P : TokenKind → ℕ → Type 0) (i j : TokenKind) (m n : ℕ) → front.Found i m ≡ front.Found j n → P i m → P j n
as_found P i j m n e p =
    let parts = found_parts i j m n e in
    let A : TokenKind → Type 0 = λ x. P x m in
    let B : ℕ → Type 0 = λ x. P j x in
    subst B parts.1 (subst A parts.0 p)

word_spells : (z : Text) → 0 < length z → is_in class.Letter (slice_index z 0) ≡ true → (kind : TokenKind) (n : ℕ) → word z ≡ front.Found kind n → Spells kind (take n z)
unfolding word reserved
word_spells z some letter kind n e = by (reserved (take (run class.WordByte z) z)) refl e
  where
    by : (r : Option TokenKind) → reserved (take (run class.WordByte z) z) ≡ r → named (run class.WordByte z) r ≡ front.Found kind n → Spells kind (take n z)
    by (Some j) is e = as_found (λ i m. Spells i (take m z)) j kind (run class.WordByte z) n e (lookup_spells words words_spelled (take (run class.WordByte z) z) j is)
    by None is e = short (nat_le (run class.WordByte z) 64) refl e
      where
        short : (t : Bool) → nat_le (run class.WordByte z) 64 ≡ t → if_then t (front.Found k.Name (run class.WordByte z)) front.LongName ≡ front.Found kind n → Spells kind (take n z)
        short true small e = as_found (λ i m. Spells i (take m z)) k.Name kind (run class.WordByte z) n e
            (name_spells z (run class.WordByte z) (run_positive class.WordByte z some (letter_is_word (slice_index z 0) letter)) letter refl (grind (arith, nat_tests)) is)
        short false large e = absurd cc

digits_spell : (z : Text) → 0 < length z → is_in class.Digit (slice_index z 0) ≡ true → (kind : TokenKind) (n : ℕ) → digits z ≡ front.Found kind n → Spells kind (take n z)
unfolding digits
digits_spell z some digit kind n e = by (nat_le (value_of (take (run class.Digit z) z)) (2 ^ 62)) refl e
  where
    by : (t : Bool) → nat_le (value_of (take (run class.Digit z) z)) (2 ^ 62) ≡ t → if_then t (front.Found (k.Number (value_of (take (run class.Digit z) z))) (run class.Digit z)) front.LongNumber ≡ front.Found kind n → Spells kind (take n z)
    by true small e = as_found (λ i m. Spells i (take m z)) (k.Number (value_of (take (run class.Digit z) z))) kind (run class.Digit z) n e (record {
      some = rw (length-take-le (run class.Digit z) z (run_within class.Digit z)) (run_positive class.Digit z some digit);
      digits = run_take class.Digit (run class.Digit z) z (omega arith) ∙ sym (length-take-le (run class.Digit z) z (run_within class.Digit z));
      value = refl;
      small = grind (arith, nat_tests);
    })
    by false large e = absurd cc

sign_spells : (z : Text) → 0 < length z → (kind : TokenKind) (n : ℕ) → sign z ≡ front.Found kind n → Spells kind (take n z)
unfolding sign pair_sign
sign_spells z some kind n e = by (pair_sign z) refl e
  where
    taken_one : (y : Text) → 0 < length y → slice_index y 0 ∷ [] ≡ take 1 y
    taken_one [] h = absurd (omega arith)
    taken_one (b ∷ y) h = refl

    pair : (y : Text) (j : TokenKind) → pair_sign y ≡ Some j → Spells j (take 2 y)
    pair [] j e = absurd cc
    pair (a ∷ []) j e = absurd cc
    pair (a ∷ b ∷ y) j e = lookup_spells pairs pairs_spelled (a ∷ b ∷ []) j e

    single : (r : Option TokenKind) → lookup singles (slice_index z 0 ∷ []) ≡ r → found 1 r front.BadByte ≡ front.Found kind n → Spells kind (take n z)
    single (Some j) is e =
        let P : Text → Type 0 = λ v. Spells j v in
        as_found (λ i m. Spells i (take m z)) j kind 1 n e (subst P (taken_one z some) (lookup_spells singles singles_spelled (slice_index z 0 ∷ []) j is))
    single None is e = absurd cc

    by : (r : Option TokenKind) → pair_sign z ≡ r → found 2 r (found 1 (lookup singles (slice_index z 0 ∷ [])) front.BadByte) ≡ front.Found kind n → Spells kind (take n z)
    by (Some j) is e = as_found (λ i m. Spells i (take m z)) j kind 2 n e (pair z j is)
    by None is e = single (lookup singles (slice_index z 0 ∷ [])) refl e

pub found_spells : (z : Text) → 0 < length z → (kind : TokenKind) (n : ℕ) → foremost z ≡ front.Found kind n → Spells kind (take n z)
found_spells z some kind n e = by (case_of z (front.Found kind n) e)
  where
    by : Case z (front.Found kind n) → Spells kind (take n z)
    by (is_blank is e) = absurd cc
    by (is_comment is e) = absurd cc
    by (is_word is e) = word_spells z some is kind n e
    by (is_number is e) = digits_spell z some is kind n e
    by (is_sign e) = sign_spells z some kind n e
