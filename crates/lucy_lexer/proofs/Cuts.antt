-- A text is cut into what stands at its front, and the rest.
use Rattle.std.proofs.Common.{◌≡◌, ◌⊎◌, inl, inr, ℕ, zero, suc, ◌+◌, ◌-◌, ◌≤◌, ◌<◌, ◌==◌, Bool, true, false, cond as if_then, List, [], ◌∷◌, ◌++◌, length, take, drop, Option, Some, None, Ok, Err, refl, sym, ap, subst, ◌∙◌, append_assoc, arith, nat_le, nat_lt, ◌^◌, length-drop, length-append}
use Rattle.std.proofs.lemmas.Bool.Decides.{nat_tests}
use Rattle.std.proofs.lemmas.List.{drop-drop, drop_at, take-append-drop, length-take-le}
use Rattle.std.specs.List.{AllByRecursion}
use Rattle.std.specs.Prelude.{slice_index}
use Rattle.lucy_lexer.specs.declared.bytes.Class.{Class}
use Rattle.lucy_lexer.specs.declared.bytes.Class.TheVariants as class
use Rattle.lucy_lexer.specs.declared.error.LexError.{LexError}
use Rattle.lucy_lexer.specs.declared.error.LexError.TheVariants.{BadByte, LongNumber, LongName}
use Rattle.lucy_lexer.specs.declared.front.Front.{Front}
use Rattle.lucy_lexer.specs.declared.front.Front.TheVariants as front
use Rattle.lucy_lexer.specs.declared.token.Token.{Token}
use Rattle.lucy_lexer.specs.declared.token.TokenKind.{TokenKind}
use Rattle.lucy_lexer.specs.declared.token.TokenKind.TheVariants as k
use Rattle.lucy_lexer.specs.Bytes.{Text, is_in, run, value_of}
use Rattle.lucy_lexer.specs.Front.{foremost, word, digits, sign, comment_len, named, found, reserved, pair_sign, lookup, singles, IsWithin}
use Rattle.lucy_lexer.specs.Reading.{Tokens, before, followed, len_of, tokens_from}
use Rattle.lucy_lexer.specs.Laws.{Ascends, IsGap, nothing, blank, comment, IsLastGap, closed, unclosed, Gaps, Spells, Written, written_text, placed, Separator, space, line_end, separator_byte}
use Rattle.lucy_lexer.proofs.ReadingLemmas.{goes, stops}
use Rattle.lucy_lexer.proofs.Fronts.{run_take, run_within, Case, is_blank, is_comment, is_word, is_number, is_sign, case_of}
use Rattle.lucy_lexer.proofs.Lengths.{front_within, found_spaced}

abbrev pub token_at : TokenKind → ℕ → ℕ → Token
token_at kind at n = record { kind = kind; start = at; end = at + n }

-- what holds at the end of a text and at a fault, and is kept by what is skipped or found before, holds of the tokens of each text
module _ (P : ℕ → Text → Tokens → Type 0)
    (ends : (at : ℕ) → P at [] (Ok []))
    (skips : (at n : ℕ) (z : Text) (r : Tokens) → foremost z ≡ front.Skipped n → 1 ≤ n → n ≤ length z → P (at + n) (drop n z) r → P at z r)
    (finds : (at n : ℕ) (z : Text) (r : Tokens) (kind : TokenKind) → foremost z ≡ front.Found kind n → 1 ≤ n → n ≤ length z → P (at + n) (drop n z) r → P at z (before r (token_at kind at n)))
    (faults : (at : ℕ) (z : Text) (e : LexError) → 0 < length z → ((others : Tokens) → followed at (foremost z) others ≡ Err e) → P at z (Err e)) where
  one_cut : (at : ℕ) (z : Text) → 0 < length z → ((m : ℕ) (y : Text) → length y < length z → P m y (tokens_from m 0 y)) → (f : Front) → foremost z ≡ f → IsWithin z f → P at z (tokens_from at 0 z)
  one_cut at z some inner (front.Skipped n) is within =
      let others = tokens_from (at + n) 0 (drop n z) in
      let e : tokens_from at 0 z ≡ others = goes at n z within.0 within.1 (ap len_of is) ∙ ap (λ f. followed at f others) is in
      subst (λ (r : Tokens). P at z r) (sym e) (skips at n z others is within.0 within.1 (inner (at + n) (drop n z) (omega (arith, length-drop n z))))
  one_cut at z some inner (front.Found kind n) is within =
      let others = tokens_from (at + n) 0 (drop n z) in
      let e : tokens_from at 0 z ≡ before others (token_at kind at n) = goes at n z within.0 within.1 (ap len_of is) ∙ ap (λ f. followed at f others) is in
      subst (λ (r : Tokens). P at z r) (sym e) (finds at n z others kind is within.0 within.1 (inner (at + n) (drop n z) (omega (arith, length-drop n z))))
  one_cut at z some inner front.BadByte is within =
      let one = stops at z some in
      subst (λ (r : Tokens). P at z r) (sym (one.1 ∙ ap (λ f. followed at f one.0) is)) (faults at z (BadByte at) some (λ others. ap (λ f. followed at f others) is))
  one_cut at z some inner front.LongNumber is within =
      let one = stops at z some in
      subst (λ (r : Tokens). P at z r) (sym (one.1 ∙ ap (λ f. followed at f one.0) is)) (faults at z (LongNumber at) some (λ others. ap (λ f. followed at f others) is))
  one_cut at z some inner front.LongName is within =
      let one = stops at z some in
      subst (λ (r : Tokens). P at z r) (sym (one.1 ∙ ap (λ f. followed at f one.0) is)) (faults at z (LongName at) some (λ others. ap (λ f. followed at f others) is))

  cut_by : (most at : ℕ) (z : Text) → length z ≤ most → P at z (tokens_from at 0 z)
  cut_by most at [] h = ends at
  cut_by zero at (b ∷ z) h = absurd (omega arith)
  cut_by (suc most) at (b ∷ z) h =
      one_cut at (b ∷ z) (omega arith) (λ m y less. cut_by most m y (omega arith)) (foremost (b ∷ z)) refl (front_within (b ∷ z) (omega arith) (foremost (b ∷ z)) refl)

  pub cut : (at : ℕ) (z : Text) → P at z (tokens_from at 0 z)
  cut at z = cut_by (length z) at z (omega arith)

abbrev pub okay : List Token → Tokens
okay ts = Ok ts

abbrev pub faulty : LexError → Tokens
faulty e = Err e

pub no_tokens : (e : LexError) (ts : List Token) → faulty e ≡ okay ts → ⊥
no_tokens e ts h = cc

pub same_tokens : (ts us : List Token) → okay ts ≡ okay us → ts ≡ us
same_tokens ts us h = cc

-- the tokens after the first
others_of : (r : Tokens) (t : Token) (ts : List Token) → before r t ≡ Ok ts → (us : List Token) × (r ≡ Ok us) × (t ∷ us ≡ ts)
others_of (Ok us) t ts h = (us, refl, same_tokens (t ∷ us) ts h)
others_of (Err e) t ts h = absurd (no_tokens e ts h)

-- ---- spans ascend

earlier : (a b end : ℕ) (ts : List Token) → a ≤ b → Ascends b end ts → Ascends a end ts
earlier a b end [] le h = omega arith
earlier a b end (t ∷ ts) le h = (omega (arith, h.0), h.1, h.2)

pub last_within : (at end : ℕ) (ts : List Token) → Ascends at end ts → at ≤ end
last_within at end [] h = h
last_within at end (t ∷ ts) h = omega (arith, h.0, h.1, last_within t.end end ts h.2)

abbrev Ascending : ℕ → Text → Tokens → Type 0
Ascending at z r = (ts : List Token) → r ≡ Ok ts → Ascends at (at + length z) ts

rest_end : (at n : ℕ) (z : Text) → n ≤ length z → at + n + length (drop n z) ≡ at + length z
rest_end at n z h = omega (arith, length-drop n z)

pub ascending : (at : ℕ) (z : Text) → Ascending at z (tokens_from at 0 z)
ascending = cut Ascending
    (λ at ts e. subst (λ (us : List Token). Ascends at (at + 0) us) (same_tokens [] ts e) (omega arith))
    (λ at n z r is some within inner ts e. earlier at (at + n) (at + length z) ts (omega arith) (subst (λ (x : ℕ). Ascends (at + n) x ts) (rest_end at n z within) (inner ts e)))
    (λ at n z r kind is some within inner ts e.
    let o = others_of r (token_at kind at n) ts e in
    subst (λ (us : List Token). Ascends at (at + length z) us) o.2
    (omega arith, omega arith, subst (λ (x : ℕ). Ascends (at + n) x o.0) (rest_end at n z within) (inner o.0 o.1)))
    (λ at z e some stands ts h. absurd (no_tokens e ts h))

-- ---- each token stands at the front of the text from its start on

abbrev StandsIn : Text → Token → Type 0
StandsIn whole t = (foremost (drop t.start whole) ≡ front.Found t.kind (t.end - t.start)) × (0 < length (drop t.start whole))

abbrev Standing : Text → ℕ → Text → Tokens → Type 0
Standing whole at z r = drop at whole ≡ z → (ts : List Token) → r ≡ Ok ts → AllByRecursion (StandsIn whole) ts

pub standing : (whole : Text) (at : ℕ) (z : Text) → Standing whole at z (tokens_from at 0 z)
standing whole = cut (Standing whole)
    (λ at place ts e. subst (λ (us : List Token). AllByRecursion (StandsIn whole) us) (same_tokens [] ts e) tt)
    (λ at n z r is some within inner place ts e. inner (sym (drop-drop n at whole) ∙ ap (drop n) place) ts e)
    (λ at n z r kind is some within inner place ts e.
    let o = others_of r (token_at kind at n) ts e in
    let long : at + n - at ≡ n = omega arith in
    subst (λ (us : List Token). AllByRecursion (StandsIn whole) us) o.2
    ((ap foremost place ∙ is ∙ ap (front.Found kind) (sym long), rw place (omega arith)), inner (sym (drop-drop n at whole) ∙ ap (drop n) place) o.0 o.1))
    (λ at z e some stands place ts h. absurd (no_tokens e ts h))

pub all_of : {X : Type 0} (P Q : X → Type 0) → ((x : X) → P x → Q x) → (xs : List X) → AllByRecursion P xs → AllByRecursion Q xs
all_of P Q f [] h = tt
all_of P Q f (x ∷ xs) h = (f x h.0, all_of P Q f xs h.1)

-- ---- what is skipped is a gap

pub no_word : (z : Text) (n : ℕ) → word z ≡ front.Skipped n → ⊥
unfolding word
no_word z n e = by (reserved (take (run class.WordByte z) z)) e
  where
    short : (t : Bool) → if_then t (front.Found k.Name (run class.WordByte z)) front.LongName ≡ front.Skipped n → ⊥
    short true e = cc
    short false e = cc

    by : (r : Option TokenKind) → named (run class.WordByte z) r ≡ front.Skipped n → ⊥
    by (Some j) e = cc
    by None e = short (nat_le (run class.WordByte z) 64) e

pub no_digits : (z : Text) (n : ℕ) → digits z ≡ front.Skipped n → ⊥
unfolding digits
no_digits z n e = by (nat_le (value_of (take (run class.Digit z) z)) (2 ^ 62)) e
  where
    by : (t : Bool) → if_then t (front.Found (k.Number (value_of (take (run class.Digit z) z))) (run class.Digit z)) front.LongNumber ≡ front.Skipped n → ⊥
    by true e = cc
    by false e = cc

pub no_sign : (z : Text) (n : ℕ) → sign z ≡ front.Skipped n → ⊥
unfolding sign
no_sign z n e = by (pair_sign z) e
  where
    single : (r : Option TokenKind) → found 1 r front.BadByte ≡ front.Skipped n → ⊥
    single (Some j) e = cc
    single None e = cc

    by : (r : Option TokenKind) → found 2 r (found 1 (lookup singles (slice_index z 0 ∷ [])) front.BadByte) ≡ front.Skipped n → ⊥
    by (Some j) e = cc
    by None e = single (lookup singles (slice_index z 0 ∷ [])) e

pub skipped_len : (m n : ℕ) → front.Skipped m ≡ front.Skipped n → m ≡ n
skipped_len m n e = cc

-- what may stand before a gap and leaves it one
abbrev Prepends : Text → Type 0
Prepends p = (y : Text) → IsGap y → IsGap (p ++ y)

-- a comment that the end of the text ends
abbrev IsOpen : Text → Type 0
IsOpen z = (line : Text) × (z ≡ 35 ∷ line) × (run class.InLine line ≡ length line)

-- where a run ends before the text does, a byte of another class comes
run_stops : (c : Class) (z : Text) → run c z < length z → (b : ℕ) × (take (run c z + 1) z ≡ take (run c z) z ++ b ∷ []) × (is_in c b ≡ false)
run_stops c [] h = absurd (omega arith)
run_stops c (b ∷ z) h = by (is_in c b) refl h (λ i. run_stops c z i)
  where
    by : (t : Bool) → is_in c b ≡ t → if_then t (1 + run c z) 0 < suc (length z) → (run c z < length z → (x : ℕ) × (take (run c z + 1) z ≡ take (run c z) z ++ x ∷ []) × (is_in c x ≡ false))
        → (x : ℕ) × (take (if_then t (1 + run c z) 0 + 1) (b ∷ z) ≡ take (if_then t (1 + run c z) 0) (b ∷ z) ++ x ∷ []) × (is_in c x ≡ false)
    by true is h more =
        let o = more (omega arith) in
        let one : 1 + run c z + 1 ≡ suc (run c z + 1) = omega arith in
        let two : 1 + run c z ≡ suc (run c z) = omega arith in
        (o.0, ap (λ n. take n (b ∷ z)) one ∙ ap (λ y. b ∷ y) o.1 ∙ ap (λ n. take n (b ∷ z) ++ o.0 ∷ []) (sym two), o.2)
    by false is h more = (b, refl, is)

comment_cases : (z : Text) → 0 < length z → (slice_index z 0 == 35) ≡ true → Prepends (take (comment_len z) z) ⊎ ((comment_len z ≡ length z) × IsOpen z)
unfolding comment_len
comment_cases [] some is = absurd (omega arith)
comment_cases (b ∷ y) some is =
    let hash : b ≡ 35 = grind (arith, nat_tests) in
    subst (λ (x : ℕ). Prepends (take (comment_len (x ∷ y)) (x ∷ y)) ⊎ ((comment_len (x ∷ y) ≡ suc (length y)) × IsOpen (x ∷ y))) (sym hash) (by (nat_lt (1 + run class.InLine y) (suc (length y))) refl)
  where
    line : Text
    line = take (run class.InLine y) y

    all_in : run class.InLine (take (run class.InLine y) y) ≡ length (take (run class.InLine y) y)
    all_in = run_take class.InLine (run class.InLine y) y (omega arith) ∙ sym (length-take-le (run class.InLine y) y (run_within class.InLine y))

    by : (t : Bool) → nat_lt (1 + run class.InLine y) (suc (length y)) ≡ t
        → Prepends (take (if_then t (1 + run class.InLine y + 1) (1 + run class.InLine y)) (35 ∷ y)) ⊎ ((if_then t (1 + run class.InLine y + 1) (1 + run class.InLine y) ≡ suc (length y)) × IsOpen (35 ∷ y))
    by true is =
        let o = run_stops class.InLine y (grind (arith, nat_tests)) in
        let lf : o.0 ≡ 10 = ended o.0 o.2 in
        let long : 1 + run class.InLine y + 1 ≡ suc (run class.InLine y + 1) = omega arith in
        let front : take (1 + run class.InLine y + 1) (35 ∷ y) ≡ 35 ∷ (take (run class.InLine y) y ++ 10 ∷ []) =
        ap (λ n. take n (35 ∷ y)) long ∙ ap (λ x. 35 ∷ x) o.1 ∙ ap (λ x. 35 ∷ (take (run class.InLine y) y ++ x ∷ [])) lf in
        inl (subst (λ (p : Text). Prepends p) (sym front) (λ w gap.
        subst (λ (x : Text). IsGap (35 ∷ x)) (sym (append_assoc (take (run class.InLine y) y) (10 ∷ []) w)) (comment (take (run class.InLine y) y) w all_in gap)))
      where
        ended : (x : ℕ) → is_in class.InLine x ≡ false → x ≡ 10
        ended x h = grind (arith, nat_tests)
    by false is =
        let far : run class.InLine y ≤ length y = run_within class.InLine y in
        let full : length y ≤ run class.InLine y = grind (arith, nat_tests) in
        let done : run class.InLine y ≡ length y = omega arith in
        inr (omega arith, (y, refl, done))

skipped_cases : (z : Text) (n : ℕ) → 0 < length z → foremost z ≡ front.Skipped n → Prepends (take n z) ⊎ ((n ≡ length z) × IsOpen z)
skipped_cases z n some e = by (case_of z (front.Skipped n) e)
  where
    one : (y : Text) → 0 < length y → is_in class.Blank (slice_index y 0) ≡ true → Prepends (take 1 y)
    one [] some is = absurd (omega arith)
    one (b ∷ y) some is = λ x gap. blank b x is gap

    by : Case z (front.Skipped n) → Prepends (take n z) ⊎ ((n ≡ length z) × IsOpen z)
    by (is_blank is e) = inl (subst (λ (m : ℕ). Prepends (take m z)) (skipped_len 1 n e) (one z some is))
    by (is_comment is e) = subst (λ (m : ℕ). Prepends (take m z) ⊎ ((m ≡ length z) × IsOpen z)) (skipped_len (comment_len z) n e) (comment_cases z some is)
    by (is_word is e) = absurd (no_word z n e)
    by (is_number is e) = absurd (no_digits z n e)
    by (is_sign e) = absurd (no_sign z n e)

last_gap : (p : Text) → Prepends p → (y : Text) → IsLastGap y → IsLastGap (p ++ y)
last_gap p more y (closed z gap) = closed (p ++ z) (more z gap)
last_gap p more y (unclosed z line gap all) = subst (λ (x : Text). IsLastGap x) (append_assoc p z (35 ∷ line)) (unclosed (p ++ z) line (more z gap) all)

open_gap : (z : Text) → IsOpen z → IsLastGap z
open_gap z o = subst (λ (x : Text). IsLastGap x) (sym o.1) (unclosed [] o.0 nothing o.2)

pub take_none : (i : ℕ) → take {A = ℕ} i [] ≡ []
take_none zero = refl
take_none (suc i) = refl

take_split : (n m : ℕ) (z : Text) → take (n + m) z ≡ take n z ++ take m (drop n z)
take_split zero m z = let e : 0 + m ≡ m = omega arith in ap (λ i. take i z) e
take_split (suc n) m [] = take_none (suc n + m) ∙ sym (take_none m)
take_split (suc n) m (b ∷ z) = let e : suc n + m ≡ suc (n + m) = omega arith in ap (λ i. take i (b ∷ z)) e ∙ ap (λ y. b ∷ y) (take_split n m z)

-- a gap that goes on before the tokens
skip_before : (at n : ℕ) (z : Text) → 1 ≤ n → n ≤ length z → (ts : List Token) → Prepends (take n z) ⊎ ((n ≡ length z) × IsOpen z) → Ascends (at + n) (at + length z) ts → Gaps (at + n) (drop n z) ts → Gaps at z ts
skip_before at n z some within [] (inl more) order gaps = subst (λ (x : Text). IsLastGap x) (take-append-drop n z) (last_gap (take n z) more (drop n z) gaps)
skip_before at n z some within [] (inr o) order gaps = open_gap z o.1
skip_before at n z some within (t ∷ ts) (inl more) order gaps =
    let front : n + (t.start - (at + n)) ≡ t.start - at = omega (arith, order.0) in
    let whole : n + (t.end - (at + n)) ≡ t.end - at = omega (arith, order.0, order.1) in
    let joined : take n z ++ take (t.start - (at + n)) (drop n z) ≡ take (t.start - at) z = sym (take_split n (t.start - (at + n)) z) ∙ ap (λ i. take i z) front in
    let left : drop (t.end - (at + n)) (drop n z) ≡ drop (t.end - at) z = drop-drop (t.end - (at + n)) n z ∙ ap (λ i. drop i z) whole in
    (subst (λ (x : Text). IsGap x) joined (more (take (t.start - (at + n)) (drop n z)) gaps.0), subst (λ (x : Text). Gaps t.end x ts) left gaps.1)
skip_before at n z some within (t ∷ ts) (inr o) order gaps = absurd (omega (arith, order.0, order.1, o.0, last_within t.end (at + length z) ts order.2))

abbrev Gapped : ℕ → Text → Tokens → Type 0
Gapped at z r = (ts : List Token) → r ≡ Ok ts → (Ascends at (at + length z) ts) × Gaps at z ts

later_ascends : (at n : ℕ) (z : Text) → n ≤ length z → (ts : List Token) → Ascends (at + n) (at + n + length (drop n z)) ts → Ascends (at + n) (at + length z) ts
later_ascends at n z within ts h = subst (λ (x : ℕ). Ascends (at + n) x ts) (rest_end at n z within) h

pub gapped : (at : ℕ) (z : Text) → Gapped at z (tokens_from at 0 z)
gapped = cut Gapped
    (λ at ts e. subst (λ (us : List Token). (Ascends at (at + 0) us) × Gaps at [] us) (same_tokens [] ts e) (omega arith, closed [] nothing))
    (λ at n z r is some within inner ts e.
    let later = inner ts e in
    let order : Ascends (at + n) (at + length z) ts = later_ascends at n z within ts later.0 in
    (earlier at (at + n) (at + length z) ts (omega arith) order, skip_before at n z some within ts (skipped_cases z n (omega arith) is) order later.1))
    (λ at n z r kind is some within inner ts e.
    let o = others_of r (token_at kind at n) ts e in
    let later = inner o.0 o.1 in
    let order : Ascends (at + n) (at + length z) o.0 = later_ascends at n z within o.0 later.0 in
    let none : at - at ≡ 0 = omega arith in
    let long : at + n - at ≡ n = omega arith in
    subst (λ (us : List Token). (Ascends at (at + length z) us) × Gaps at z us) o.2 (
      (omega arith, omega arith, order),
      (subst (λ (i : ℕ). IsGap (take i z)) (sym none) nothing, subst (λ (i : ℕ). Gaps (at + n) (drop i z) o.0) (sym long) later.1),
    ))
    (λ at z e some stands ts h. absurd (no_tokens e ts h))

-- ---- tokens that are written with a separator after each

separator_skipped : (s : Separator) (rest : Text) → foremost (separator_byte s ∷ rest) ≡ front.Skipped 1
unfolding foremost
separator_skipped space rest = refl
separator_skipped line_end rest = refl

pub spaced : (at : ℕ) (ws : List Written) → AllByRecursion (λ w. Spells w.kind w.text) ws → tokens_from at 0 (written_text ws) ≡ Ok (placed at ws)
spaced at [] all = refl
spaced at (w ∷ ws) all =
    let sep = separator_byte w.after in
    let rest = written_text ws in
    let z = w.text ++ sep ∷ rest in
    let there : foremost z ≡ front.Found w.kind (length w.text) = found_spaced w.kind w.text w.after rest all.0 in
    let long : length z ≡ length w.text + suc (length rest) = length-append w.text (sep ∷ rest) in
    let within : IsWithin z (front.Found w.kind (length w.text)) = front_within z (omega arith) (front.Found w.kind (length w.text)) there in
    let left : drop (length w.text) z ≡ sep ∷ rest = drop_at w.text (sep ∷ rest) (length w.text) refl in
    goes at (length w.text) z within.0 within.1 (ap len_of there)
    ∙ ap (λ f. followed at f (tokens_from (at + length w.text) 0 (drop (length w.text) z))) there
    ∙ ap (λ y. before (tokens_from (at + length w.text) 0 y) (token_at w.kind at (length w.text))) left
    ∙ ap (λ f. before (followed (at + length w.text) f (tokens_from (at + length w.text + 1) (len_of f - 1) rest)) (token_at w.kind at (length w.text))) (separator_skipped w.after rest)
    ∙ ap (λ r. before r (token_at w.kind at (length w.text))) (spaced (at + length w.text + 1) ws all.1)
