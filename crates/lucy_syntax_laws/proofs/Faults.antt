-- The laws of faults: no tree goes on as the text does up to the word at the place that is told.
use Rattle.std.proofs.Common.{◌≡◌, inl, inr, ℕ, suc, ◌≤◌, ◌<◌, List, [], ◌∷◌, ◌++◌, length, Result, Ok, Err, refl, sym, ap, subst, ◌∙◌, arith}
use Rattle.std.proofs.lemmas.List.{append-nil}
use Rattle.lucy_lexer.specs.declared.token.Token.{Token}
use Rattle.lucy_lexer.specs.Laws.{Ascends, SpansAscend}
use Rattle.lucy_tree.specs.declared.plans.Tree.{Tree}
use Rattle.lucy_tree.specs.Words.{Word, Words, span_of}
use Rattle.lucy_tree.specs.Spelling.{spelling}
use Rattle.lucy_tree.specs.Nesting.{nesting}
use Rattle.lucy_syntax.specs.declared.error.SyntaxError.{SyntaxError}
use Rattle.lucy_syntax.specs.declared.error.SyntaxError.TheVariants.{OutOfMemory, Lex, Syntax, TooDeep}
use Rattle.lucy_syntax.specs.Input.{Input, Outcome, input_of, word_of, words_of}
use Rattle.lucy_syntax.specs.Plans.{plan}
use Rattle.lucy_syntax.specs.Parsing.{only, ended, read, lexed, tree_of}
use Rattle.lucy_syntax.proofs.TheWords.{span_is}
use Rattle.lucy_syntax.proofs.PlansGiven.{plan_back}
use Rattle.lucy_syntax_laws.specs.Laws.{AreSame, Begins, SameWordsAreRead, NoneGoesOn, NoTreeGoesOn, NoTreeGoesDeeper}
use Rattle.lucy_syntax_laws.proofs.Agreeing.{Beyond, Told, Agree, Fine, any}
use Rattle.lucy_syntax_laws.proofs.PlansAgree.{plan_same}

abbrev pub made : Tree → Result Tree SyntaxError
made t = Ok t

abbrev pub refused : SyntaxError → Result Tree SyntaxError
refused e = Err e

abbrev read_as : Tree → Input → Outcome Tree
read_as t j = Ok (t, j)

pub no_tree : (t : Tree) (e : SyntaxError) → made t ≡ refused e → ⊥
no_tree t e h = cc

pub err_is : (d e : SyntaxError) → refused d ≡ refused e → d ≡ e
err_is d e h = cc

-- where the reading is beyond the words that agree, the fault is told there
told_after : (Later : ℕ → Type 0) (t : Tree) (ws : Words) (end : ℕ) (e : SyntaxError) → Beyond Later ws end → only t ws ≡ Err e → Told Later e
told_after Later t [] end e past h = absurd (no_tree t e h)
told_after Later t (w ∷ ws) end e past h = subst (Told Later) (err_is (Syntax (span_of w).start) e h) past.0.0

-- ---- words that agree

all_agree : (ws us : Words) (end : ℕ) → AreSame ws us → Agree (λ n. ⊥) ws us end (length ws)
all_agree [] [] end same = tt
all_agree [] (u ∷ us) end same = absurd same
all_agree (w ∷ ws) [] end same = absurd same
all_agree (w ∷ ws) (u ∷ us) end same = (same.0, inl (all_agree ws us end same.1))

begins_agree : (Later : ℕ → Type 0) (before : Words) (word : Word) (after us : Words) (end : ℕ) → Beyond Later after end → Begins (before ++ word ∷ []) us
    → Agree Later (before ++ word ∷ after) us end (suc (length before))
begins_agree Later [] word after [] end past begins = absurd begins
begins_agree Later [] word after (u ∷ us) end past begins = (begins.0, inr past)
begins_agree Later (w ∷ ws) word after [] end past begins = absurd begins
begins_agree Later (w ∷ ws) word after (u ∷ us) end past begins = (begins.0, inl (begins_agree Later ws word after us end past begins.1))

-- where the second reading ends with its words, the first stops at none that agrees
nothing_left : (Later : ℕ → Type 0) (t : Tree) (ws : Words) (end m : ℕ) (e : SyntaxError) → Agree Later ws [] end m → only t ws ≡ Err e → ⊥
nothing_left Later t [] end m e agree h = no_tree t e h
nothing_left Later t (w ∷ ws) end m e agree h = agree

no_fault : (Later : ℕ → Type 0) (n : ℕ) (o : Outcome Tree) (t : Tree) (end : ℕ) (e : SyntaxError) → (Told Later e → ⊥) → Fine Later 1 n any o (read_as t (input_of [] end)) → ended o ≡ Err e → ⊥
no_fault Later n (Err d) t end e never (inl told) h = never (subst (Told Later) (err_is d e h) told)
no_fault Later n (Err d) t end e never (inr stops) h = stops
no_fault Later n (Ok p) t end e never (inl past) h = never (told_after Later p.0 p.1.words p.1.end e past h)
no_fault Later n (Ok p) t end e never (inr meets) h = nothing_left Later p.0 p.1.words p.1.end meets.0 e meets.3 h

read_on : (Later : ℕ → Type 0) (text : List ℕ) (tokens : List Token) (tree : Tree) (n : ℕ) (e : SyntaxError) → nesting tree ≤ 64 → (Told Later e → ⊥)
    → Agree Later (words_of text tokens) (spelling tree) (length text) n → read text tokens ≡ Err e → ⊥
unfolding read
read_on Later text tokens tree n e fit never agree h =
    let i = input_of (words_of text tokens) (length text) in
    let back : plan (input_of (spelling tree) 0) ≡ read_as tree (input_of [] 0) = ap (λ ws. plan (input_of ws 0)) (sym (append-nil (spelling tree))) ∙ (plan_back tree [] fit).reads 0 in
    let P : Outcome Tree → Type 0 = λ o. Fine Later 1 n any (plan i) o in
    no_fault Later n (plan i) tree 0 e never (subst P back ((plan_same Later).keeps n i (input_of (spelling tree) 0) agree)) h

-- ---- the same words

none_told : (e : SyntaxError) → Told (λ n. ⊥) e → ⊥
none_told (Syntax at) told = told
none_told (TooDeep at) told = told
none_told OutOfMemory told = told
none_told (Lex e) told = told

one_is_read : (r : Result Tree SyntaxError) → ((e : SyntaxError) → r ≡ Err e → ⊥) → (again : Tree) × (r ≡ Ok again)
one_is_read (Ok t) never = (t, refl)
one_is_read (Err e) never = absurd (never e refl)

pub same_read : SameWordsAreRead
unfolding tree_of
same_read text tokens tree fit lexes same =
    one_is_read (tree_of text) (λ e h. read_on (λ n. ⊥) text tokens tree (length (words_of text tokens)) e fit (none_told e) (all_agree (words_of text tokens) (spelling tree) (length text) same) (sym (ap (lexed text) lexes) ∙ h))

-- ---- the words up to a place

later_words : (text : List ℕ) (at low end : ℕ) (ts : List Token) → at < low → Ascends low end ts → Beyond (λ n. at < n) (words_of text ts) end
later_words text at low end [] above up = (tt, omega (arith, above, up))
later_words text at low end (t ∷ ts) above up =
    let a = up.0 in
    let b = up.1 in
    let others = later_words text at t.end end ts (omega (arith, above, a, b)) up.2 in
    let start : at < t.start = omega (arith, above, a) in
    ((subst (λ (s : ℕ). at < s) (sym (ap (λ s. s.start) (span_is text t))) start, others.0), others.1)

first_is : (v w : Word) (vs ws : Words) → (v ∷ vs) ≡ (w ∷ ws) → v ≡ w
first_is v w vs ws e = cc

others_are : (v w : Word) (vs ws : Words) → (v ∷ vs) ≡ (w ∷ ws) → vs ≡ ws
others_are v w vs ws e = cc

later_after : (text : List ℕ) (low end : ℕ) (ts : List Token) (before : Words) (word : Word) (after : Words) → Ascends low end ts → words_of text ts ≡ before ++ word ∷ after
    → Beyond (λ n. (span_of word).start < n) after end
later_after text low end [] [] word after up e = absurd cc
later_after text low end [] (w ∷ ws) word after up e = absurd cc
later_after text low end (t ∷ ts) [] word after up e =
    let b = up.1 in
    let same : t.start ≡ (span_of word).start = sym (ap (λ s. s.start) (span_is text t)) ∙ ap (λ w. (span_of w).start) (first_is (word_of text t) word (words_of text ts) after e) in
    let P : Words → Type 0 = λ ws. Beyond (λ n. (span_of word).start < n) ws end in
    subst P (others_are (word_of text t) word (words_of text ts) after e) (later_words text (span_of word).start t.end end ts (omega (arith, b, same)) up.2)
later_after text low end (t ∷ ts) (w ∷ ws) word after up e = later_after text t.end end ts ws word after up.2 (others_are (word_of text t) w (words_of text ts) (ws ++ word ∷ after) e)

none_goes_on : (fault : ℕ → SyntaxError) → ((at : ℕ) → Told (λ n. at < n) (fault at) → ⊥) → SpansAscend → NoneGoesOn fault
unfolding tree_of
none_goes_on fault never ascend text tokens before after word tree lexes words h fit begins =
    let at : ℕ = (span_of word).start in
    let agree = begins_agree (λ n. at < n) before word after (spelling tree) (length text) (later_after text 0 (length text) tokens before word after (ascend text tokens lexes) words) begins in
    let P : Words → Type 0 = λ ws. Agree (λ n. at < n) ws (spelling tree) (length text) (suc (length before)) in
    read_on (λ n. at < n) text tokens tree (suc (length before)) (fault at) fit (never at) (subst P (sym words) agree) (sym (ap (lexed text) lexes) ∙ h)

not_below : (at : ℕ) → at < at → ⊥
not_below at h = omega (arith, h)

pub goes_on : SpansAscend → NoTreeGoesOn
goes_on = none_goes_on Syntax not_below

pub goes_deeper : SpansAscend → NoTreeGoesDeeper
goes_deeper = none_goes_on TooDeep not_below
