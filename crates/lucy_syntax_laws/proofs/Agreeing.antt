-- What a parser does depends on no word behind the one at which it stops, and on no place.
use Rattle.std.proofs.Common.{◌≡◌, ◌⊎◌, ⊎_elim, inl, inr, ℕ, zero, suc, ◌+◌, ◌≤◌, List, [], ◌∷◌, ◌++◌, length, Bool, true, false, cond as if_then, Option, Some, None, Ok, Err, ◌==◌, refl, sym, ap, subst, ◌∙◌, arith}
use Rattle.std.specs.List.{list_any}
use Rattle.lucy_lexer.specs.declared.token.TokenKind.{TokenKind}
use Rattle.lucy_lexer.specs.declared.token.TokenKind.TheVariants as k
use Rattle.lucy_lexer.specs.Kind.{is_kind}
use Rattle.lucy_tree.specs.declared.marks.Span.{Span}
use Rattle.lucy_tree.specs.declared.marks.Name.{Name}
use Rattle.lucy_tree.specs.declared.marks.Number.{Number}
use Rattle.lucy_tree.specs.declared.marks.Chain.{Chain}
use Rattle.lucy_tree.specs.Words.{Word, Words, called, plain, kind_of, span_of}
use Rattle.lucy_syntax.specs.declared.error.SyntaxError.{SyntaxError}
use Rattle.lucy_syntax.specs.declared.error.SyntaxError.TheVariants.{OutOfMemory, Lex, Syntax, TooDeep}
use Rattle.lucy_syntax.specs.Input.{Input, Outcome, Parser, and_then, input_of, here_in, here, refusal, refuse, kind_in, peek, look, eat_in, eat, expected, expect, ahead_in, ahead, name_in, name, number_in, number, opened}
use Rattle.lucy_syntax.specs.Lists.{many, many_from, many_step, then_of, alone, chain}
use Rattle.lucy_syntax_laws.specs.Laws.{IsSame}

-- ---- two readings

-- all these words, and the end, are at such places
abbrev pub AllLater : (ℕ → Type 0) → Words → Type 0
AllLater Later [] = Unit {0}
AllLater Later (w ∷ ws) = Later (span_of w).start × AllLater Later ws

abbrev pub Beyond : (ℕ → Type 0) → Words → ℕ → Type 0
Beyond Later ws end = AllLater Later ws × Later end

-- the fault is told at such a place
abbrev pub Told : (ℕ → Type 0) → SyntaxError → Type 0
Told Later (Syntax at) = Later at
Told Later (TooDeep at) = Later at
Told Later OutOfMemory = ⊥
Told Later (Lex e) = ⊥

abbrev pub Passed : {A : Type 0} → (ℕ → Type 0) → Outcome A → Type 0
Passed Later (Ok p) = Beyond Later p.1.words p.1.end
Passed Later (Err e) = Told Later e

-- the words are the same, places aside, up to the end of both or up to a word behind which all places are such; at most so many words
abbrev pub Agree : (ℕ → Type 0) → Words → Words → ℕ → ℕ → Type 0
Agree Later [] [] end n = Unit {0}
Agree Later [] (u ∷ us) end n = ⊥
Agree Later (w ∷ ws) [] end n = ⊥
Agree Later (w ∷ ws) (u ∷ us) end zero = ⊥
Agree Later (w ∷ ws) (u ∷ us) end (suc n) = IsSame w u × (Agree Later ws us end n ⊎ Beyond Later ws end)

-- both readings go on from words that agree, of which at least b were passed
abbrev pub Meets : {A K : Type 0} → (ℕ → Type 0) → ℕ → ℕ → (A → K) → A × Input → Outcome A → Type 0
Meets Later b n shape p (Err e) = ⊥
Meets Later b n shape p (Ok q) = (m : ℕ) × (shape p.0 ≡ shape q.0) × (m + b ≤ n) × Agree Later p.1.words q.1.words p.1.end m

abbrev pub Stops : {A : Type 0} → Outcome A → Type 0
Stops (Ok p) = ⊥
Stops (Err e) = Unit {0}

-- the first reading is beyond the words that agree, or the second does as it did
abbrev pub Fine : {A K : Type 0} → (ℕ → Type 0) → ℕ → ℕ → (A → K) → Outcome A → Outcome A → Type 0
Fine Later b n shape (Ok p) o = Beyond Later p.1.words p.1.end ⊎ Meets Later b n shape p o
Fine Later b n shape (Err e) o = Told Later e ⊎ Stops o

-- the parsers do the same as long as the words agree; b words at least are read
pub record Same {A K : Type 0} (Later : ℕ → Type 0) (b : ℕ) (shape : A → K) (p q : Parser A) : Type 0 where
  pub passes : (i : Input) → Beyond Later i.words i.end → Passed Later (p i)
  pub keeps : (n : ℕ) (i j : Input) → Agree Later i.words j.words i.end n → Fine Later b n shape (p i) (q j)

-- values of which nothing is said
abbrev pub any : {A : Type 0} → A → Unit {0}
any a = tt

abbrev pub seen : {A : Type 0} → Option A → Bool
seen None = false
seen (Some s) = true

abbrev pub empty : {A : Type 0} → List A → Bool
empty [] = true
empty (x ∷ xs) = false

abbrev pub single : {A : Type 0} → Chain A → Bool
single c = empty c.others

-- ---- steps

passed_fine : {A K : Type 0} (Later : ℕ → Type 0) (b n : ℕ) (shape : A → K) (o r : Outcome A) → Passed Later o → Fine Later b n shape o r
passed_fine Later b n shape (Ok p) r h = inl h
passed_fine Later b n shape (Err e) r h = inl h

passed_then : {A B : Type 0} (Later : ℕ → Type 0) (o : Outcome A) (q : A → Parser B) → Passed Later o → ((a : A) (i : Input) → Beyond Later i.words i.end → Passed Later (q a i)) → Passed Later (and_then o q)
passed_then Later (Ok p) q h f = f p.0 p.1 h
passed_then Later (Err e) q h f = h

loosen : {A K : Type 0} (Later : ℕ → Type 0) (b c d m n : ℕ) (shape : A → K) (o r : Outcome A) → m + b ≤ n → d ≤ b + c → Fine Later c m shape o r → Fine Later d n shape o r
loosen Later b c d m n shape (Err e) r less few h = h
loosen Later b c d m n shape (Ok p) r less few (inl past) = inl past
loosen Later b c d m n shape (Ok p) (Err e) less few (inr meets) = absurd meets
loosen Later b c d m n shape (Ok p) (Ok q) less few (inr meets) = let f = meets.2 in inr (meets.0, meets.1, omega (arith, less, few, f), meets.3)

fine_then : {A B K L : Type 0} (Later : ℕ → Type 0) (b c d n : ℕ) (shape : A → K) (form : B → L) (o r : Outcome A) (q s : A → Parser B) → d ≤ b + c → Fine Later b n shape o r
    → ((a : A) (i : Input) → Beyond Later i.words i.end → Passed Later (q a i))
    → ((x y : A) (m : ℕ) (i j : Input) → m + b ≤ n → shape x ≡ shape y → Agree Later i.words j.words i.end m → Fine Later c m form (q x i) (s y j))
    → Fine Later d n form (and_then o q) (and_then r s)
fine_then Later b c d n shape form (Err e) (Err f) q s few h pass keep = h
fine_then Later b c d n shape form (Err e) (Ok p) q s few (inl told) pass keep = inl told
fine_then Later b c d n shape form (Err e) (Ok p) q s few (inr stops) pass keep = absurd stops
fine_then Later b c d n shape form (Ok p) r q s few (inl past) pass keep = passed_fine Later d n form (q p.0 p.1) (and_then r s) (pass p.0 p.1 past)
fine_then Later b c d n shape form (Ok p) (Err f) q s few (inr meets) pass keep = absurd meets
fine_then Later b c d n shape form (Ok p) (Ok t) q s few (inr meets) pass keep =
    loosen Later b c d meets.0 n form (q p.0 p.1) (s t.0 t.1) meets.2 few (keep p.0 t.0 meets.0 p.1 t.1 meets.2 meets.1 meets.3)

-- one after the other; the words of the first are counted
pub bind : {A B K L : Type 0} {Later : ℕ → Type 0} {b c : ℕ} {shape : A → K} {form : B → L} {p r : Parser A} {q s : A → Parser B}
    → Same Later b shape p r → ((x y : A) → shape x ≡ shape y → Same Later c form (q x) (s y)) → Same Later b form (λ i. and_then (p i) q) (λ i. and_then (r i) s)
bind {A} {B} {K} {L} {Later} {b} {c} {shape} {form} {p} {r} {q} {s} first then = record {
  passes = λ i past. passed_then Later (p i) q (first.passes i past) (λ a j far. (then a a refl).passes j far);
  keeps = λ n i j agree. fine_then Later b c b n shape form (p i) (r j) q s (omega arith) (first.keeps n i j agree) (λ a l far. (then a a refl).passes l far) (λ x y m l t less e more. (then x y e).keeps m l t more);
}

-- likewise; the words of the second are counted
pub skip : {A B K L : Type 0} {Later : ℕ → Type 0} {b c : ℕ} {shape : A → K} {form : B → L} {p r : Parser A} {q s : A → Parser B}
    → Same Later b shape p r → ((x y : A) → shape x ≡ shape y → Same Later c form (q x) (s y)) → Same Later c form (λ i. and_then (p i) q) (λ i. and_then (r i) s)
skip {A} {B} {K} {L} {Later} {b} {c} {shape} {form} {p} {r} {q} {s} first then = record {
  passes = λ i past. passed_then Later (p i) q (first.passes i past) (λ a j far. (then a a refl).passes j far);
  keeps = λ n i j agree. fine_then Later b c c n shape form (p i) (r j) q s (omega arith) (first.keeps n i j agree) (λ a l far. (then a a refl).passes l far) (λ x y m l t less e more. (then x y e).keeps m l t more);
}

pub gives : {A K : Type 0} {Later : ℕ → Type 0} {shape : A → K} {x y : A} → shape x ≡ shape y → Same Later 0 shape (λ i. Ok (x, i)) (λ i. Ok (y, i))
gives {A} {K} {Later} e = record { passes = λ i past. past; keeps = λ n i j agree. inr (n, e, omega arith, agree) }

here_later : (Later : ℕ → Type 0) (ws : Words) (end : ℕ) → Beyond Later ws end → Later (here_in ws end)
here_later Later [] end past = past.1
here_later Later (w ∷ ws) end past = past.0.0

pub refuses : {A K : Type 0} {Later : ℕ → Type 0} {b : ℕ} {shape : A → K} → Same Later b shape refuse refuse
unfolding refusal here
refuses {A} {K} {Later} = record { passes = λ i past. here_later Later i.words i.end past; keeps = λ n i j agree. inr tt }

same_kind : (w u : Word) → IsSame w u → kind_of w ≡ kind_of u
same_kind (called text s) (called text' s') e = refl
same_kind (plain kind s) (plain kind' s') e = e
same_kind (called text s) (plain kind s') e = absurd e
same_kind (plain kind s) (called text s') e = absurd e

kinds_agree : (Later : ℕ → Type 0) (ws us : Words) (end n : ℕ) → Agree Later ws us end n → kind_in ws ≡ kind_in us
kinds_agree Later [] [] end n agree = refl
kinds_agree Later [] (u ∷ us) end n agree = absurd agree
kinds_agree Later (w ∷ ws) [] end n agree = absurd agree
kinds_agree Later (w ∷ ws) (u ∷ us) end zero agree = absurd agree
kinds_agree Later (w ∷ ws) (u ∷ us) end (suc n) agree = ap (λ kind. Some kind) (same_kind w u agree.0)

pub looks : {B L : Type 0} {Later : ℕ → Type 0} {c : ℕ} {form : B → L} {q s : Option TokenKind → Parser B}
    → ((kind : Option TokenKind) → Same Later c form (q kind) (s kind)) → Same Later c form (λ i. and_then (look i) q) (λ i. and_then (look i) s)
unfolding peek
looks {B} {L} {Later} {c} {form} {q} {s} then = record {
  passes = λ i past. (then (peek i)).passes i past;
  keeps = λ n i j agree.
      let P : Option TokenKind → Type 0 = λ kind. Fine Later c n form (q (peek i) i) (s kind j) in
      subst P (kinds_agree Later i.words j.words i.end n agree) ((then (peek i)).keeps n i j agree);
}

-- ---- tokens

abbrev done : {A : Type 0} → A × Input → Outcome A
done p = Ok p

-- a word that agrees was read
past_word : {A K : Type 0} (Later : ℕ → Type 0) (b : ℕ) (shape : A → K) (x y : A) (ws us : Words) (end end' n : ℕ) → b ≤ 1 → shape x ≡ shape y → Agree Later ws us end n ⊎ Beyond Later ws end
    → Fine Later b (suc n) shape (done (x, input_of ws end)) (done (y, input_of us end'))
past_word Later b shape x y ws us end end' n one e (inl agree) = inr (n, e, omega (arith, one), agree)
past_word Later b shape x y ws us end end' n one e (inr past) = inl past

module _ (Later : ℕ → Type 0) where
  eat_passes : (kind : TokenKind) (ws : Words) (end : ℕ) → Beyond Later ws end → Passed Later (eat_in kind ws end)
  eat_passes kind [] end past = past
  eat_passes kind (w ∷ ws) end past = by (is_kind (kind_of w) kind)
    where
      by : (b : Bool) → Passed Later (if_then b (done (Some (span_of w), input_of ws end)) (done (None, input_of (w ∷ ws) end)))
      by true = (past.0.1, past.1)
      by false = past

  eat_keeps : (kind : TokenKind) (n : ℕ) (ws us : Words) (end end' : ℕ) → Agree Later ws us end n → Fine Later 0 n seen (eat_in kind ws end) (eat_in kind us end')
  eat_keeps kind n [] [] end end' agree = inr (n, refl, omega arith, agree)
  eat_keeps kind n [] (u ∷ us) end end' agree = absurd agree
  eat_keeps kind n (w ∷ ws) [] end end' agree = absurd agree
  eat_keeps kind zero (w ∷ ws) (u ∷ us) end end' agree = absurd agree
  eat_keeps kind (suc n) (w ∷ ws) (u ∷ us) end end' agree =
      let P : TokenKind → Type 0 = λ next. Fine Later 0 (suc n) seen (eat_in kind (w ∷ ws) end) (if_then (is_kind next kind) (done (Some (span_of u), input_of us end')) (done (None, input_of (u ∷ us) end'))) in
      subst P (same_kind w u agree.0) (by (is_kind (kind_of w) kind))
    where
      by : (b : Bool) → Fine Later 0 (suc n) seen (if_then b (done (Some (span_of w), input_of ws end)) (done (None, input_of (w ∷ ws) end))) (if_then b (done (Some (span_of u), input_of us end')) (done (None, input_of (u ∷ us) end')))
      by true = past_word Later 0 seen (Some (span_of w)) (Some (span_of u)) ws us end end' n (omega arith) refl agree.1
      by false = inr (suc n, refl, omega arith, agree)

  pub eats : (kind : TokenKind) → Same Later 0 seen (eat kind) (eat kind)
  unfolding eat
  eats kind = record { passes = λ i past. eat_passes kind i.words i.end past; keeps = λ n i j agree. eat_keeps kind n i.words j.words i.end j.end agree }

  wanted : (s : Option Span) → Same Later 0 any (expected s) (expected s)
  wanted None = refuses
  wanted (Some s) = gives refl

  expect_keeps : (kind : TokenKind) (n : ℕ) (ws us : Words) (end end' : ℕ) → Agree Later ws us end n
      → Fine Later 1 n any (and_then (eat_in kind ws end) expected) (and_then (eat_in kind us end') expected)
  expect_keeps kind n [] [] end end' agree = inr tt
  expect_keeps kind n [] (u ∷ us) end end' agree = absurd agree
  expect_keeps kind n (w ∷ ws) [] end end' agree = absurd agree
  expect_keeps kind zero (w ∷ ws) (u ∷ us) end end' agree = absurd agree
  expect_keeps kind (suc n) (w ∷ ws) (u ∷ us) end end' agree =
      let P : TokenKind → Type 0 = λ next. Fine Later 1 (suc n) any (and_then (eat_in kind (w ∷ ws) end) expected)
      (and_then (if_then (is_kind next kind) (done (Some (span_of u), input_of us end')) (done (None, input_of (u ∷ us) end'))) expected) in
      subst P (same_kind w u agree.0) (by (is_kind (kind_of w) kind))
    where
      by : (b : Bool) → Fine Later 1 (suc n) any (and_then (if_then b (done (Some (span_of w), input_of ws end)) (done (None, input_of (w ∷ ws) end))) expected)
          (and_then (if_then b (done (Some (span_of u), input_of us end')) (done (None, input_of (u ∷ us) end'))) expected)
      by true = past_word Later 1 any (span_of w) (span_of u) ws us end end' n (omega arith) refl agree.1
      by false = inr tt

  pub expects : (kind : TokenKind) → Same Later 1 any (expect kind) (expect kind)
  unfolding expect eat
  expects kind = record {
    passes = λ i past. passed_then Later (eat kind i) expected (eat_passes kind i.words i.end past) (λ s j far. (wanted s).passes j far);
    keeps = λ n i j agree. expect_keeps kind n i.words j.words i.end j.end agree;
  }

  pub opens : (depth : ℕ) (kind : TokenKind) → Same Later 1 any (opened depth kind) (opened depth kind)
  unfolding opened here
  opens depth kind = record { passes = λ i past. passes_by (depth == 0) i past; keeps = λ n i j agree. keeps_by (depth == 0) n i j agree }
    where
      passes_by : (b : Bool) (i : Input) → Beyond Later i.words i.end → Passed Later (if_then b (Err (TooDeep (here i))) (expect kind i))
      passes_by true i past = here_later Later i.words i.end past
      passes_by false i past = (expects kind).passes i past

      keeps_by : (b : Bool) (n : ℕ) (i j : Input) → Agree Later i.words j.words i.end n
          → Fine Later 1 n any (if_then b (Err (TooDeep (here i))) (expect kind i)) (if_then b (Err (TooDeep (here j))) (expect kind j))
      keeps_by true n i j agree = inr tt
      keeps_by false n i j agree = (expects kind).keeps n i j agree

  ahead_passes : (kinds : List TokenKind) (ws : Words) (end : ℕ) → Beyond Later ws end → Passed Later (ahead_in kinds ws end)
  ahead_passes kinds [] end past = past
  ahead_passes kinds (w ∷ ws) end past = by (list_any (is_kind (kind_of w)) kinds)
    where
      by : (b : Bool) → Passed Later (if_then b (done (Some (span_of w), input_of (w ∷ ws) end)) (done (None, input_of (w ∷ ws) end)))
      by true = past
      by false = past

  ahead_keeps : (kinds : List TokenKind) (n : ℕ) (ws us : Words) (end end' : ℕ) → Agree Later ws us end n → Fine Later 0 n seen (ahead_in kinds ws end) (ahead_in kinds us end')
  ahead_keeps kinds n [] [] end end' agree = inr (n, refl, omega arith, agree)
  ahead_keeps kinds n [] (u ∷ us) end end' agree = absurd agree
  ahead_keeps kinds n (w ∷ ws) [] end end' agree = absurd agree
  ahead_keeps kinds zero (w ∷ ws) (u ∷ us) end end' agree = absurd agree
  ahead_keeps kinds (suc n) (w ∷ ws) (u ∷ us) end end' agree =
      let P : TokenKind → Type 0 = λ next. Fine Later 0 (suc n) seen (ahead_in kinds (w ∷ ws) end)
      (if_then (list_any (is_kind next) kinds) (done (Some (span_of u), input_of (u ∷ us) end')) (done (None, input_of (u ∷ us) end'))) in
      subst P (same_kind w u agree.0) (by (list_any (is_kind (kind_of w)) kinds))
    where
      by : (b : Bool) → Fine Later 0 (suc n) seen (if_then b (done (Some (span_of w), input_of (w ∷ ws) end)) (done (None, input_of (w ∷ ws) end)))
          (if_then b (done (Some (span_of u), input_of (u ∷ us) end')) (done (None, input_of (u ∷ us) end')))
      by true = inr (suc n, refl, omega arith, agree)
      by false = inr (suc n, refl, omega arith, agree)

  pub sees : (kinds : List TokenKind) → Same Later 0 seen (ahead kinds) (ahead kinds)
  unfolding ahead
  sees kinds = record { passes = λ i past. ahead_passes kinds i.words i.end past; keeps = λ n i j agree. ahead_keeps kinds n i.words j.words i.end j.end agree }

  name_passes : (ws : Words) (end : ℕ) → Beyond Later ws end → Passed Later (name_in ws end)
  name_passes [] end past = past.1
  name_passes (called text s ∷ ws) end past = (past.0.1, past.1)
  name_passes (plain kind s ∷ ws) end past = past.0.0

  name_keeps : (n : ℕ) (ws us : Words) (end end' : ℕ) → Agree Later ws us end n → Fine Later 1 n any (name_in ws end) (name_in us end')
  name_keeps n [] [] end end' agree = inr tt
  name_keeps n [] (u ∷ us) end end' agree = absurd agree
  name_keeps n (w ∷ ws) [] end end' agree = absurd agree
  name_keeps zero (w ∷ ws) (u ∷ us) end end' agree = absurd agree
  name_keeps (suc n) (called text s ∷ ws) (called text' s' ∷ us) end end' agree = past_word {A = Name} Later 1 any (record { text = text; span = s }) (record { text = text'; span = s' }) ws us end end' n (omega arith) refl agree.1
  name_keeps (suc n) (plain kind s ∷ ws) (plain kind' s' ∷ us) end end' agree = inr tt
  name_keeps (suc n) (called text s ∷ ws) (plain kind s' ∷ us) end end' agree = absurd agree.0
  name_keeps (suc n) (plain kind s ∷ ws) (called text s' ∷ us) end end' agree = absurd agree.0

  pub names_same : Same Later 1 any name name
  unfolding name
  names_same = record { passes = λ i past. name_passes i.words i.end past; keeps = λ n i j agree. name_keeps n i.words j.words i.end j.end agree }

  number_passes : (ws : Words) (end : ℕ) → Beyond Later ws end → Passed Later (number_in ws end)
  number_passes [] end past = past.1
  number_passes (called text s ∷ ws) end past = past.0.0
  number_passes (plain (k.Number value) s ∷ ws) end past = (past.0.1, past.1)
  number_passes (plain kind s ∷ ws) end past = past.0.0

  number_keeps : (n : ℕ) (ws us : Words) (end end' : ℕ) → Agree Later ws us end n → Fine Later 1 n any (number_in ws end) (number_in us end')
  number_keeps n [] [] end end' agree = inr tt
  number_keeps n [] (u ∷ us) end end' agree = absurd agree
  number_keeps n (w ∷ ws) [] end end' agree = absurd agree
  number_keeps zero (w ∷ ws) (u ∷ us) end end' agree = absurd agree
  number_keeps (suc n) (called text s ∷ ws) (called text' s' ∷ us) end end' agree = inr tt
  number_keeps (suc n) (called text s ∷ ws) (plain kind s' ∷ us) end end' agree = absurd agree.0
  number_keeps (suc n) (plain kind s ∷ ws) (called text s' ∷ us) end end' agree = absurd agree.0
  number_keeps (suc n) (plain kind s ∷ ws) (plain kind' s' ∷ us) end end' agree =
      let P : TokenKind → Type 0 = λ next. Fine Later 1 (suc n) any (number_in (plain kind s ∷ ws) end) (number_in (plain next s' ∷ us) end') in
      subst P agree.0 (by kind)
    where
      by : (next : TokenKind) → Fine Later 1 (suc n) any (number_in (plain next s ∷ ws) end) (number_in (plain next s' ∷ us) end')
      by (k.Number value) = past_word {A = Number} Later 1 any (record { value = value; span = s }) (record { value = value; span = s' }) ws us end end' n (omega arith) refl agree.1
      by _ = inr tt

  pub numbers_same : Same Later 1 any number number
  unfolding number
  numbers_same = record { passes = λ i past. number_passes i.words i.end past; keeps = λ n i j agree. number_keeps n i.words j.words i.end j.end agree }

-- ---- lists

more_is_some : {A : Type 0} (xs : List A) (x : A) → empty (xs ++ x ∷ []) ≡ false
more_is_some [] x = refl
more_is_some (y ∷ ys) x = refl

-- no more words agree than there are
record Within (Later : ℕ → Type 0) (ws us : Words) (end n : ℕ) : Type 0 where
  pub count : ℕ
  pub few : count ≤ n
  pub first : count ≤ length ws
  pub second : count ≤ length us
  pub agree : Agree Later ws us end count

one_within : (Later : ℕ → Type 0) (w u : Word) (ws us : Words) (end n : ℕ) → IsSame w u → Within Later ws us end n ⊎ Beyond Later ws end → Within Later (w ∷ ws) (u ∷ us) end (suc n)
one_within Later w u ws us end n same (inl r) = let a = r.few in let b = r.first in let c = r.second in
    record { count = suc r.count; few = omega (arith, a); first = omega (arith, b); second = omega (arith, c); agree = (same, inl r.agree) }
one_within Later w u ws us end n same (inr past) = record { count = 1; few = omega arith; first = omega arith; second = omega arith; agree = (same, inr past) }

within : (Later : ℕ → Type 0) (ws us : Words) (end n : ℕ) → Agree Later ws us end n → Within Later ws us end n
within Later [] [] end n agree = record { count = 0; few = omega arith; first = omega arith; second = omega arith; agree = tt }
within Later [] (u ∷ us) end n agree = absurd agree
within Later (w ∷ ws) [] end n agree = absurd agree
within Later (w ∷ ws) (u ∷ us) end zero agree = absurd agree
within Later (w ∷ ws) (u ∷ us) end (suc n) agree = one_within Later w u ws us end n agree.0 (⊎_elim (λ more. inl (within Later ws us end n more)) (λ past. inr past) agree.1)

module _ {S A B K : Type 0} (Later : ℕ → Type 0) (mark : Parser (Option S)) (build : S → A → B) (item : Parser A) (shape : A → K)
    (ends : (end : ℕ) → mark (input_of [] end) ≡ Ok (None, input_of [] end)) (marks : Same Later 0 seen mark mark) (items : Same Later 1 shape item item) where
  step_passes : (again : List B → Parser (List B)) → ((found : List B) (i : Input) → Beyond Later i.words i.end → Passed Later (again found i))
      → (found : List B) (s : Option S) (j : Input) → Beyond Later j.words j.end → Passed Later (many_step build item again found s j)
  step_passes again pass found None j far = far
  step_passes again pass found (Some s) j far = passed_then Later (item j) (λ x. again (found ++ build s x ∷ [])) (items.passes j far) (λ x l out. pass (found ++ build s x ∷ []) l out)

  many_passes : (n : ℕ) (found : List B) (i : Input) → Beyond Later i.words i.end → Passed Later (many_from mark build item n found i)
  unfolding many_from
  many_passes zero found i past = past
  many_passes (suc n) found i past = passed_then Later (mark i) (many_step build item (many_from mark build item n) found) (marks.passes i past) (step_passes (many_from mark build item n) (λ more l out. many_passes n more l out) found)

  -- where no words are left, the list ends
  at_end : (n : ℕ) (found : List B) (end : ℕ) → many_from mark build item n found (input_of [] end) ≡ Ok (found, input_of [] end)
  unfolding many_from
  at_end zero found end = refl
  at_end (suc n) found end = ap (λ r. and_then r (many_step build item (many_from mark build item n) found)) (ends end)

  step_keeps : (again again' : List B → Parser (List B)) (c : ℕ) → ((found : List B) (i : Input) → Beyond Later i.words i.end → Passed Later (again found i))
      → ((found found' : List B) (p : ℕ) (i j : Input) → p ≤ c → empty found ≡ empty found' → Agree Later i.words j.words i.end p → Fine Later 0 p empty (again found i) (again' found' j))
      → (found found' : List B) → empty found ≡ empty found' → (s t : Option S) (m : ℕ) (i j : Input) → m ≤ suc c → seen s ≡ seen t → Agree Later i.words j.words i.end m
      → Fine Later 0 m empty (many_step build item again found s i) (many_step build item again' found' t j)
  step_keeps again again' c pass keep found found' e None None m i j less f more = inr (m, e, omega arith, more)
  step_keeps again again' c pass keep found found' e None (Some t) m i j less f more = absurd cc
  step_keeps again again' c pass keep found found' e (Some s) None m i j less f more = absurd cc
  step_keeps again again' c pass keep found found' e (Some s) (Some t) m i j less f more =
      fine_then Later 1 0 0 m shape empty (item i) (item j) (λ x. again (found ++ build s x ∷ [])) (λ x. again' (found' ++ build t x ∷ [])) (omega arith)
      (items.keeps m i j more) (λ x l out. pass (found ++ build s x ∷ []) l out)
      (λ x y p l o fewer _ rest. keep (found ++ build s x ∷ []) (found' ++ build t y ∷ []) p l o (omega (arith, less, fewer)) (more_is_some found (build s x) ∙ sym (more_is_some found' (build t y))) rest)

  many_keeps : (n n' : ℕ) (found found' : List B) (c : ℕ) (ws us : Words) (end end' : ℕ) → c ≤ n → c ≤ n' → empty found ≡ empty found' → Agree Later ws us end c
      → Fine Later 0 c empty (many_from mark build item n found (input_of ws end)) (many_from mark build item n' found' (input_of us end'))
  unfolding many_from
  many_keeps n n' found found' c [] [] end end' some some' e agree =
      let P : Outcome (List B) → Type 0 = λ o. Fine Later 0 c empty o (many_from mark build item n' found' (input_of [] end')) in
      let Q : Outcome (List B) → Type 0 = λ o. Fine Later 0 c empty (done (found, input_of [] end)) o in
      subst P (sym (at_end n found end)) (subst Q (sym (at_end n' found' end')) (inr (c, e, omega arith, tt)))
  many_keeps n n' found found' c [] (u ∷ us) end end' some some' e agree = absurd agree
  many_keeps n n' found found' c (w ∷ ws) [] end end' some some' e agree = absurd agree
  many_keeps n n' found found' zero (w ∷ ws) (u ∷ us) end end' some some' e agree = absurd agree
  many_keeps zero n' found found' (suc c) (w ∷ ws) (u ∷ us) end end' some some' e agree = absurd (omega (arith, some))
  many_keeps (suc n) zero found found' (suc c) (w ∷ ws) (u ∷ us) end end' some some' e agree = absurd (omega (arith, some'))
  many_keeps (suc n) (suc n') found found' (suc c) (w ∷ ws) (u ∷ us) end end' some some' e agree =
      fine_then Later 0 0 0 (suc c) seen empty (mark (input_of (w ∷ ws) end)) (mark (input_of (u ∷ us) end'))
      (many_step build item (many_from mark build item n) found) (many_step build item (many_from mark build item n') found') (omega arith)
      (marks.keeps (suc c) (input_of (w ∷ ws) end) (input_of (u ∷ us) end') agree) (step_passes (many_from mark build item n) (many_passes n) found)
      (λ s t m i j less f more. step_keeps (many_from mark build item n) (many_from mark build item n') c (many_passes n)
      (λ more more' p l o fewer f rest. many_keeps n n' more more' p l.words o.words l.end o.end (omega (arith, fewer, some)) (omega (arith, fewer, some')) f rest)
      found found' e s t m i j (omega (arith, less)) f more)

  many_all : (n : ℕ) (ws us : Words) (end end' : ℕ) → Within Later ws us end n → Fine Later 0 n empty (many mark build item (input_of ws end)) (many mark build item (input_of us end'))
  unfolding many
  many_all n ws us end end' w =
      loosen Later 0 0 0 w.count n empty (many mark build item (input_of ws end)) (many mark build item (input_of us end')) (let a = w.few in omega (arith, a)) (omega arith)
      (many_keeps (length ws) (length us) [] [] w.count ws us end end' w.first w.second refl w.agree)

  pub many_same : Same Later 0 empty (many mark build item) (many mark build item)
  unfolding many
  many_same = record { passes = λ i past. many_passes (length i.words) [] i past; keeps = λ n i j agree. many_all n i.words j.words i.end j.end (within Later i.words j.words i.end n agree) }

module _ (Later : ℕ → Type 0) {A K : Type 0} (shape : A → K) (item : Parser A) (items : Same Later 1 shape item item) where
  -- { mark item }
  pub others_same : (kind : TokenKind) → Same Later 0 empty (many (eat kind) then_of item) (many (eat kind) then_of item)
  unfolding eat
  others_same kind = many_same Later (eat kind) then_of item shape (λ end. refl) (eats Later kind) items

  -- { item }, where each item begins with one of these kinds
  pub listed_same : (kinds : List TokenKind) → Same Later 0 empty (many (ahead kinds) alone item) (many (ahead kinds) alone item)
  unfolding ahead
  listed_same kinds = many_same Later (ahead kinds) alone item shape (λ end. refl) (sees Later kinds) items

  -- item { mark item }
  pub chain_same : (kind : TokenKind) → Same Later 1 single (chain item (many (eat kind) then_of item)) (chain item (many (eat kind) then_of item))
  chain_same kind = bind items (λ x y _. bind (others_same kind) (λ xs ys e. gives e))
