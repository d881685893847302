-- Where a text has tokens and no tree, some text that is read begins with the words before the place that is told.
use Rattle.std.proofs.Common.{◌≡◌, inl, ℕ, ◌≤◌, List, [], ◌∷◌, ◌++◌, length, Ok, Err, refl, sym, ap, subst, ◌∙◌}
use Rattle.std.proofs.lemmas.List.{append-nil}
use Rattle.std.proofs.lemmas.List.Elements.{recursion_from_All, All-from_recursion}
use Rattle.std.specs.List.{AllByRecursion}
use Rattle.lucy_lexer.specs.declared.token.Token.{Token}
use Rattle.lucy_lexer.specs.Laws.{EqualKinds, Spells, SpansAscend, SlicesAreSpelled, SpacedTokensAreRead, slice_of, Written, written_text, placed}
use Rattle.lucy_lexer.specs.Reading.{tokens_of}
use Rattle.lucy_tree.specs.declared.plans.Tree.{Tree}
use Rattle.lucy_tree.specs.Words.{Word, Words, called, plain, span_of}
use Rattle.lucy_tree.specs.Spelling.{spelling}
use Rattle.lucy_tree.specs.Nesting.{nesting}
use Rattle.lucy_syntax.specs.declared.error.SyntaxError.{SyntaxError}
use Rattle.lucy_syntax.specs.declared.error.SyntaxError.TheVariants.{Syntax}
use Rattle.lucy_syntax.specs.Input.{Input, Outcome, input_of, words_of}
use Rattle.lucy_syntax.specs.Plans.{plan}
use Rattle.lucy_syntax.specs.Parsing.{only, ended, read, lexed, tree_of}
use Rattle.lucy_syntax.proofs.Taking.{whole}
use Rattle.lucy_syntax_laws.specs.Laws.{IsSame, AreSame, Begins, SameWordsAreRead, GoesOn, SomeTextGoesOn}
use Rattle.lucy_syntax.proofs.Writable.{Proper, all_both}
use Rattle.lucy_syntax_laws.proofs.Writing.{proper_words, all_first, written_words, written_spells, words_back}
use Rattle.lucy_syntax.proofs.Completing.{Stopped}
use Rattle.lucy_syntax.proofs.PlansComplete.{plan_completes}
use Rattle.lucy_syntax_laws.proofs.Faults.{no_tree, err_is}

abbrev stopped : SyntaxError → Outcome Tree
stopped e = Err e

-- a word after the `end` of a plan
word_left : (i : Input) (t : Tree) (e : SyntaxError) (ws : Words) (end : ℕ) → i.words ≡ spelling t ++ ws → i.end ≡ end → nesting t ≤ 64 → only t ws ≡ Err e → Stopped [] spelling (λ u. nesting u ≤ 64) i e
word_left i t e [] end are same fit h = absurd (no_tree t e h)
word_left i t e (w ∷ ws) end are same fit h = record {
  front = spelling t;
  rest = w ∷ ws;
  are = are;
  told = inl (sym (err_is (Syntax (span_of w).start) e h));
  goes = record { value = t; more = []; spelled = sym (append-nil (spelling t)); proper = tt; kept = fit };
}

plan_stops : (equal : EqualKinds) (i : Input) (e : SyntaxError) (o : Outcome Tree) → plan i ≡ o → ended o ≡ Err e → Stopped [] spelling (λ u. nesting u ≤ 64) i e
plan_stops equal i e (Err d) read h = (plan_completes equal).stops i e (read ∙ ap (λ c. stopped c) (err_is d e h))
plan_stops equal i e (Ok p) read h = let t = (whole (plan_completes equal).reads).takes i p.1 p.0 read in word_left i p.0 e p.1.words p.1.end t.0.words t.0.end t.1 h

read_stops : (equal : EqualKinds) (text : List ℕ) (tokens : List Token) (e : SyntaxError) → read text tokens ≡ Err e → Stopped [] spelling (λ u. nesting u ≤ 64) (input_of (words_of text tokens) (length text)) e
unfolding read
read_stops equal text tokens e h = let i = input_of (words_of text tokens) (length text) in plan_stops equal i e (plan i) refl h

same_turned : (u w : Word) → IsSame u w → IsSame w u
same_turned (called text s) (called text' s') e = sym e
same_turned (plain kind s) (plain kind' s') e = sym e
same_turned (called text s) (plain kind s') e = absurd e
same_turned (plain kind s) (called text s') e = absurd e

begins_so : (before more us : Words) → AreSame us (before ++ more) → Begins before us
begins_so [] more us same = tt
begins_so (w ∷ ws) more [] same = absurd same
begins_so (w ∷ ws) more (u ∷ us) same = (same_turned u w same.0, begins_so ws more us same.1)

-- a text of those words and more
told_text : SameWordsAreRead → SpacedTokensAreRead → (text : List ℕ) (tokens : List Token) (e : SyntaxError) → AllByRecursion Proper (words_of text tokens)
    → Stopped [] spelling (λ u. nesting u ≤ 64) (input_of (words_of text tokens) (length text)) e → GoesOn text tokens e
told_text same spaced text tokens e proper s =
    let P : Words → Type 0 = AllByRecursion Proper in
    let all : P (spelling s.goes.value) = subst P (sym s.goes.spelled) (all_both s.front s.goes.more (all_first s.front s.rest (subst P s.are proper)) s.goes.proper) in
    let ws : List Written = written_words (spelling s.goes.value) all in
    let lexes : tokens_of (written_text ws) ≡ Ok (placed 0 ws) =
    spaced ws (All-from_recursion (λ (w : Written). Spells w.kind w.text) ws (written_spells (spelling s.goes.value) all)) in
    let words : AreSame (words_of (written_text ws) (placed 0 ws)) (spelling s.goes.value) = words_back (written_text ws) [] 0 (spelling s.goes.value) all refl refl in
    let r = same (written_text ws) (placed 0 ws) s.goes.value s.goes.kept lexes words in
    record {
      before = s.front;
      rest = s.rest;
      words = s.are;
      told = s.told;
      other = written_text ws;
      others = placed 0 ws;
      lexes = lexes;
      begins = begins_so s.front s.goes.more (words_of (written_text ws) (placed 0 ws)) (subst (AreSame (words_of (written_text ws) (placed 0 ws))) s.goes.spelled words);
      tree = r.0;
      reads = r.1;
    }

pub text_goes_on : EqualKinds → SpansAscend → SlicesAreSpelled → SpacedTokensAreRead → SameWordsAreRead → SomeTextGoesOn
unfolding tree_of
text_goes_on equal ascend sliced spaced same text tokens e lexes h =
    let proper : AllByRecursion Proper (words_of text tokens) =
    proper_words text 0 tokens (ascend text tokens lexes) (recursion_from_All (λ t. Spells t.kind (slice_of text t)) tokens (sliced text tokens lexes)) in
    told_text same spaced text tokens e proper (read_stops equal text tokens e (sym (ap (lexed text) lexes) ∙ h))
