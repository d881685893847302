-- All before the fault that is told can be read.
use Rattle.std.proofs.Common.{◌≡◌, ℕ, zero, suc, ◌+◌, ◌≤◌, ◌<◌, ◌^◌, ◌==◌, Bool, true, false, cond as if_then, List, [], ◌∷◌, length, take, drop, Option, Some, None, Ok, Err, refl, sym, ap, subst, ◌∙◌, arith, nat_le, nat_lt, length-drop}
use Rattle.std.proofs.lemmas.Bool.Decides.{nat_tests}
use Rattle.std.proofs.lemmas.List.{drop-drop, drop-take, length-take-le}
use Rattle.std.specs.Prelude.{slice_index}
use Rattle.lucy_lexer.specs.declared.bytes.Class.{Class}
use Rattle.lucy_lexer.specs.declared.bytes.Class.TheVariants as class
use Rattle.lucy_lexer.specs.declared.error.LexError.{LexError}
use Rattle.lucy_lexer.specs.declared.error.LexError.TheVariants.{OutOfMemory, BadByte, LongNumber, LongName}
use Rattle.lucy_lexer.specs.declared.front.Front.{Front}
use Rattle.lucy_lexer.specs.declared.front.Front.TheVariants as front
use Rattle.lucy_lexer.specs.declared.token.Token.{Token}
use Rattle.lucy_lexer.specs.declared.token.TokenKind.{TokenKind}
use Rattle.lucy_lexer.specs.declared.token.TokenKind.TheVariants as k
use Rattle.lucy_lexer.specs.Bytes.{Text, is_in, run, value_of}
use Rattle.lucy_lexer.specs.Front.{foremost, word, digits, sign, pair_sign, comment_len, found, named, reserved, lookup, singles}
use Rattle.lucy_lexer.specs.Reading.{Tokens, before, followed, len_of, tokens_from, tokens_of}
use Rattle.lucy_lexer.specs.Laws.{BeginsNothing, BeginsLongNumber, BeginsLongName, IsFirst}
use Rattle.lucy_lexer.proofs.ReadingLemmas.{goes}
use Rattle.lucy_lexer.proofs.Fronts.{first_taken}
use Rattle.lucy_lexer.proofs.Lengths.{word_len, digits_len, found_len}
use Rattle.lucy_lexer.proofs.Cuts.{cut, token_at, okay, faulty, no_tokens, no_word, no_digits, no_sign, skipped_len, take_none}
use Rattle.lucy_lexer.proofs.Faults.{bad_byte, long_number, long_name}

-- ---- what stands at the front stays when the text is cut after it

take_of_take : (n m : ℕ) (z : Text) → n ≤ m → take n (take m z) ≡ take n z
take_of_take zero m z h = refl
take_of_take (suc n) zero z h = absurd (omega arith)
take_of_take (suc n) (suc m) [] h = refl
take_of_take (suc n) (suc m) (b ∷ z) h = ap (λ y. b ∷ y) (take_of_take n m z (omega arith))

run_cut : (c : Class) (m : ℕ) (z : Text) → run c z ≤ m → run c (take m z) ≡ run c z
run_cut c m [] h = ap (run c) (take_none m)
run_cut c zero (b ∷ z) h = omega arith
run_cut c (suc m) (b ∷ z) h = by (is_in c b) refl h (λ i. run_cut c m z i)
  where
    by : (t : Bool) → is_in c b ≡ t → if_then t (1 + run c z) 0 ≤ suc m → (run c z ≤ m → run c (take m z) ≡ run c z) → if_then (is_in c b) (1 + run c (take m z)) 0 ≡ if_then (is_in c b) (1 + run c z) 0
    by true is h more = rw is (let same : run c (take m z) ≡ run c z = more (omega arith) in omega arith)
    by false is h more = rw is refl

comment_cut : (m : ℕ) (z : Text) → m ≤ length z → comment_len z ≤ m → comment_len (take m z) ≡ comment_len z
unfolding comment_len
comment_cut m z below h = by (nat_lt (run class.InLine z) (length z)) refl h
  where
    long : length (take m z) ≡ m
    long = length-take-le m z below

    by : (t : Bool) → nat_lt (run class.InLine z) (length z) ≡ t → if_then t (run class.InLine z + 1) (run class.InLine z) ≤ m
        → if_then (nat_lt (run class.InLine (take m z)) (length (take m z))) (run class.InLine (take m z) + 1) (run class.InLine (take m z)) ≡ if_then (nat_lt (run class.InLine z) (length z)) (run class.InLine z + 1) (run class.InLine z)
    by true is h =
        let same : run class.InLine (take m z) ≡ run class.InLine z = run_cut class.InLine m z (omega arith) in
        let inside : nat_lt (run class.InLine z) m ≡ true = grind (arith, nat_tests) in
        rw (long, same, is, inside) refl
    by false is h =
        let same : run class.InLine (take m z) ≡ run class.InLine z = run_cut class.InLine m z (omega arith) in
        let full : length z ≤ run class.InLine z = grind (arith, nat_tests) in
        let outside : nat_lt (run class.InLine z) m ≡ false = grind (arith, nat_tests) in
        rw (long, same, is, outside) refl

word_cut : (m : ℕ) (z : Text) → run class.WordByte z ≤ m → word (take m z) ≡ word z
unfolding word
word_cut m z h =
    ap (λ n. named n (reserved (take n (take m z)))) (run_cut class.WordByte m z h)
    ∙ ap (λ y. named (run class.WordByte z) (reserved y)) (take_of_take (run class.WordByte z) m z h)

digits_cut : (m : ℕ) (z : Text) → run class.Digit z ≤ m → digits (take m z) ≡ digits z
unfolding digits
digits_cut m z h =
    ap (λ n. if_then (nat_le (value_of (take n (take m z))) (2 ^ 62)) (front.Found (k.Number (value_of (take n (take m z)))) n) front.LongNumber) (run_cut class.Digit m z h)
    ∙ ap (λ y. if_then (nat_le (value_of y) (2 ^ 62)) (front.Found (k.Number (value_of y)) (run class.Digit z)) front.LongNumber) (take_of_take (run class.Digit z) m z h)

sign_cut : (m : ℕ) (z : Text) (kind : TokenKind) (n : ℕ) → m ≤ length z → n ≤ m → 1 ≤ n → sign z ≡ front.Found kind n → sign (take m z) ≡ front.Found kind n
unfolding sign pair_sign
sign_cut zero z kind n below h some e = absurd (omega arith)
sign_cut m [] kind n below h some e = absurd (omega arith)
sign_cut (suc zero) (a ∷ z) kind n below h some e = by (pair_sign (a ∷ z)) e
  where
    by : (r : Option TokenKind) → found 2 r (found 1 (lookup singles (a ∷ [])) front.BadByte) ≡ front.Found kind n → found 1 (lookup singles (a ∷ [])) front.BadByte ≡ front.Found kind n
    by (Some j) e = let len : 2 ≡ n = found_len j kind 2 n e in absurd (omega arith)
    by None e = e
sign_cut (suc (suc m)) (a ∷ []) kind n below h some e = absurd (omega arith)
sign_cut (suc (suc m)) (a ∷ b ∷ z) kind n below h some e = e

-- one of two answers, by a test
choose : (f : Front) (t : Bool) (a b c d : Front) → if_then t a b ≡ f → (a ≡ f → c ≡ f) → (b ≡ f → d ≡ f) → if_then t c d ≡ f
choose f true a b c d e one two = one e
choose f false a b c d e one two = two e

-- what stands at the front, by its first byte
abbrev pick : ℕ → Front → Front → Front → Front → Front
pick x c w d s = if_then (is_in class.Blank x) (front.Skipped 1) (if_then (x == 35) c (if_then (is_in class.Letter x) w (if_then (is_in class.Digit x) d s)))

front_cut : (f : Front) (m : ℕ) (z : Text) → 0 < m → foremost z ≡ f → (front.Skipped (comment_len z) ≡ f → front.Skipped (comment_len (take m z)) ≡ f) → (word z ≡ f → word (take m z) ≡ f)
    → (digits z ≡ f → digits (take m z) ≡ f) → (sign z ≡ f → sign (take m z) ≡ f) → foremost (take m z) ≡ f
unfolding foremost
front_cut f m z some e comments words numbers signs =
    subst (λ (x : ℕ). pick x (front.Skipped (comment_len (take m z))) (word (take m z)) (digits (take m z)) (sign (take m z)) ≡ f) (sym (first_taken m z some))
    (choose f (is_in class.Blank (slice_index z 0)) _ _ _ _ e (λ i. i) (λ e. choose f (slice_index z 0 == 35) _ _ _ _ e comments (λ e. choose f (is_in class.Letter (slice_index z 0)) _ _ _ _ e words
    (λ e. choose f (is_in class.Digit (slice_index z 0)) _ _ _ _ e numbers signs))))

skipped_cut : (m n : ℕ) (z : Text) → m ≤ length z → 1 ≤ n → n ≤ m → foremost z ≡ front.Skipped n → foremost (take m z) ≡ front.Skipped n
skipped_cut m n z below some h e = front_cut (front.Skipped n) m z (omega arith) e
    (λ is. let len : comment_len z ≡ n = skipped_len (comment_len z) n is in ap front.Skipped (comment_cut m z below (omega arith)) ∙ is)
    (λ is. absurd (no_word z n is))
    (λ is. absurd (no_digits z n is))
    (λ is. absurd (no_sign z n is))

not_found : (n m : ℕ) (kind : TokenKind) → front.Skipped n ≡ front.Found kind m → ⊥
not_found n m kind e = cc

found_cut : (m n : ℕ) (z : Text) (kind : TokenKind) → m ≤ length z → 1 ≤ n → n ≤ m → foremost z ≡ front.Found kind n → foremost (take m z) ≡ front.Found kind n
found_cut m n z kind below some h e = front_cut (front.Found kind n) m z (omega arith) e
    (λ is. absurd (not_found (comment_len z) n kind is))
    (λ is. let len : n ≡ run class.WordByte z = word_len z kind n is in word_cut m z (omega arith) ∙ is)
    (λ is. let len : n ≡ run class.Digit z = digits_len z kind n is in digits_cut m z (omega arith) ∙ is)
    (λ is. sign_cut m z kind n below h some is)

-- ---- a fault and what is before it

abbrev FaultAt : ℕ → LexError → Text → Type 0
FaultAt at (BadByte p) z = (p ≡ at) × BeginsNothing z
FaultAt at (LongNumber p) z = (p ≡ at) × BeginsLongNumber z
FaultAt at (LongName p) z = (p ≡ at) × BeginsLongName z
FaultAt at OutOfMemory z = ⊥

same_faults : (d e : LexError) → faulty d ≡ faulty e → d ≡ e
same_faults d e h = cc

fault_of : (at : ℕ) (z : Text) (e : LexError) → 0 < length z → ((others : Tokens) → followed at (foremost z) others ≡ Err e) → FaultAt at e z
fault_of at z e some stands = by (foremost z) refl stands
  where
    by : (f : Front) → foremost z ≡ f → ((others : Tokens) → followed at f others ≡ Err e) → FaultAt at e z
    by (front.Skipped n) is stands = absurd (no_tokens e [] (sym (stands (Ok []))))
    by (front.Found kind n) is stands = absurd (no_tokens e (token_at kind at n ∷ []) (sym (stands (Ok []))))
    by front.BadByte is stands = subst (λ (d : LexError). FaultAt at d z) (same_faults (BadByte at) e (stands (Ok []))) (refl, bad_byte z some is)
    by front.LongNumber is stands = subst (λ (d : LexError). FaultAt at d z) (same_faults (LongNumber at) e (stands (Ok []))) (refl, long_number z is)
    by front.LongName is stands = subst (λ (d : LexError). FaultAt at d z) (same_faults (LongName at) e (stands (Ok []))) (refl, long_name z is)

-- after so many bytes, which can be read, comes the fault
record IsAfter (at : ℕ) (z : Text) (e : LexError) (m : ℕ) : Type 0 where
  below : m ≤ length z
  tokens : List Token
  read : tokens_from at 0 (take m z) ≡ Ok tokens
  fault : FaultAt (at + m) e (drop m z)

abbrev Told : ℕ → Text → Tokens → Type 0
Told at z r = (e : LexError) → r ≡ Err e → (m : ℕ) × IsAfter at z e m

-- the text that was cut, read on behind what stands at its front
read_on : (at n m : ℕ) (z : Text) (f : Front) → 1 ≤ n → n + m ≤ length z → foremost (take (n + m) z) ≡ f → len_of f ≡ n
    → tokens_from at 0 (take (n + m) z) ≡ followed at f (tokens_from (at + n) 0 (take m (drop n z)))
read_on at n m z f some below is len =
    let long : length (take (n + m) z) ≡ n + m = length-take-le (n + m) z below in
    goes at n (take (n + m) z) some (omega arith) (ap len_of is ∙ len)
    ∙ ap (λ g. followed at g (tokens_from (at + n) 0 (drop n (take (n + m) z)))) is
    ∙ ap (λ y. followed at f (tokens_from (at + n) 0 y)) (drop-take n m z)

later_fault : (at n m : ℕ) (z : Text) (e : LexError) → FaultAt (at + n + m) e (drop m (drop n z)) → FaultAt (at + (n + m)) e (drop (n + m) z)
later_fault at n m z e fault =
    let place : at + n + m ≡ at + (n + m) = omega arith in
    subst (λ (p : ℕ). FaultAt p e (drop (n + m) z)) place (subst (λ (y : Text). FaultAt (at + n + m) e y) (drop-drop m n z) fault)

within_both : (n m : ℕ) (z : Text) → n ≤ length z → m ≤ length (drop n z) → n + m ≤ length z
within_both n m z h below = omega (arith, length-drop n z)

fault_unread : (e : LexError) → okay [] ≡ Err e → ⊥
fault_unread e h = cc

before_fault : (r : Tokens) (t : Token) (e : LexError) → before r t ≡ Err e → r ≡ Err e
before_fault (Ok ts) t e h = absurd cc
before_fault (Err d) t e h = h

told : (at : ℕ) (z : Text) → Told at z (tokens_from at 0 z)
told = cut Told
    (λ at e h. absurd (fault_unread e h))
    (λ at n z r is some within inner e h.
    let o = inner e h in
    let a = o.1 in
    let below = within_both n o.0 z within a.below in (
      n + o.0,
      record {
        below = below;
        tokens = a.tokens;
        read = read_on at n o.0 z (front.Skipped n) some below (skipped_cut (n + o.0) n z below some (omega arith) is) refl ∙ a.read;
        fault = later_fault at n o.0 z e a.fault;
      },
    ))
    (λ at n z r kind is some within inner e h.
    let o = inner e (before_fault r (token_at kind at n) e h) in
    let a = o.1 in
    let below = within_both n o.0 z within a.below in (
      n + o.0,
      record {
        below = below;
        tokens = token_at kind at n ∷ a.tokens;
        read = read_on at n o.0 z (front.Found kind n) some below (found_cut (n + o.0) n z kind below some (omega arith) is) refl ∙ ap (λ r. before r (token_at kind at n)) a.read;
        fault = later_fault at n o.0 z e a.fault;
      },
    ))
    (λ at z e some stands d h.
    let none : at ≡ at + 0 = omega arith in (
      0,
      record {
        below = omega arith;
        tokens = [];
        read = refl;
        fault = subst (λ (p : ℕ). FaultAt p d z) none (subst (λ (x : LexError). FaultAt at x z) (same_faults e d h) (fault_of at z e some stands));
      },
    ))

pub first_is_told : (z : Text) (e : LexError) → tokens_of z ≡ Err e → IsFirst e z
unfolding tokens_of
first_is_told z e h = let o = told 0 z e h in by o.0 o.1 e o.1.read o.1.fault
  where
    by : (m : ℕ) (a : IsAfter 0 z e m) (d : LexError) → tokens_from 0 0 (take m z) ≡ Ok a.tokens → FaultAt (0 + m) d (drop m z) → IsFirst d z
    by m a (BadByte p) read fault = let same : m ≡ p = omega (arith, fault.0) in subst (λ (q : ℕ). ((ts : List Token) × (tokens_from 0 0 (take q z) ≡ Ok ts)) × BeginsNothing (drop q z)) same ((a.tokens, read), fault.1)
    by m a (LongNumber p) read fault = let same : m ≡ p = omega (arith, fault.0) in subst (λ (q : ℕ). ((ts : List Token) × (tokens_from 0 0 (take q z) ≡ Ok ts)) × BeginsLongNumber (drop q z)) same ((a.tokens, read), fault.1)
    by m a (LongName p) read fault = let same : m ≡ p = omega (arith, fault.0) in subst (λ (q : ℕ). ((ts : List Token) × (tokens_from 0 0 (take q z) ≡ Ok ts)) × BeginsLongName (drop q z)) same ((a.tokens, read), fault.1)
    by m a OutOfMemory read fault = fault
