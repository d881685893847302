-- What is printed is read as the words that were printed.
use Rattle.std.proofs.Common.{◌≡◌, ℕ, ◌+◌, true, false, List, [], ◌∷◌, ◌++◌, length, map, Ok, refl, ap, subst, ◌∙◌}
use Rattle.std.proofs.lemmas.List.Elements.{recursion_from_All, All-from_recursion}
use Rattle.std.specs.List.{AllByRecursion}
use Rattle.lucy_lexer.specs.declared.token.Token.{Token}
use Rattle.lucy_lexer.specs.declared.token.TokenKind.{TokenKind}
use Rattle.lucy_lexer.specs.declared.token.TokenKind.TheVariants as k
use Rattle.lucy_lexer.specs.Bytes.{Text}
use Rattle.lucy_lexer.specs.Reading.{tokens_of}
use Rattle.lucy_lexer.specs.Laws.{Spells, SpansAscend, SlicesAreSpelled, SpacedTokensAreRead, slice_of, Written, written_text, placed}
use Rattle.lucy_tree.specs.declared.marks.Span.{Span}
use Rattle.lucy_tree.specs.declared.plans.Tree.{Tree}
use Rattle.lucy_tree.specs.Words.{Word, Words, called, plain}
use Rattle.lucy_tree.specs.Spelling.{spelling}
use Rattle.lucy_syntax.specs.Input.{part, word_by, words_of}
use Rattle.lucy_syntax.specs.Laws.{ReadIsSpelled}
use Rattle.lucy_syntax.proofs.Cutting.{after_one}
use Rattle.lucy_print.specs.Layout.{written_word, written_kind, words_after, laid_out, printed}
use Rattle.lucy_print_laws.specs.Laws.{nowhere, unplaced, PrintedIsSpelled}
use Rattle.lucy_print_laws.proofs.Proper.{Proper, proper_words, written_proper}

-- the word that a written token is, its place aside
abbrev back_by : TokenKind → Text → Word
back_by k.Name text = called text nowhere
back_by kind text = plain kind nowhere

abbrev back : Written → Word
back w = back_by w.kind w.text

word_back : (whole : Text) (kind : TokenKind) (s : Span) (text : Text) → part s whole ≡ text → unplaced (word_by whole s kind) ≡ back_by kind text
word_back whole k.Name s text e = ap (λ t. called t nowhere) e
word_back whole kind s text e = refl

words_back : (whole before : Text) (at : ℕ) (ws : List Written) → whole ≡ before ++ written_text ws → at ≡ length before → map unplaced (words_of whole (placed at ws)) ≡ map back ws
words_back whole before at [] e l = refl
words_back whole before at (w ∷ ws) e l =
    let a = after_one whole before w ws at e l in
    ap (λ x. x ∷ map unplaced (words_of whole (placed (at + length w.text + 1) ws))) (word_back whole w.kind (record { start = at; end = at + length w.text }) w.text a.here)
    ∙ ap (λ xs. back w ∷ xs) (words_back whole a.next (at + length w.text + 1) ws a.rest a.place)

kind_back : (kind : TokenKind) (s : Span) → Proper (plain kind s) → back (written_kind kind) ≡ unplaced (plain kind s)
kind_back k.Name s h = absurd (by h.letter)
  where
    by : false ≡ true → ⊥
    by e = cc
kind_back kind s h = refl

one_back : (w : Word) → Proper w → back (written_word w) ≡ unplaced w
one_back (called text s) h = refl
one_back (plain kind s) h = kind_back kind s h

all_back : (ws : Words) → AllByRecursion Proper ws → map back (map written_word ws) ≡ map unplaced ws
all_back [] all = refl
all_back (w ∷ ws) all = ap (λ x. x ∷ map back (map written_word ws)) (one_back w all.0) ∙ ap (λ xs. unplaced w ∷ xs) (all_back ws all.1)

printed_again : (tree : Tree) → AllByRecursion Proper (spelling tree) → SpacedTokensAreRead
    → (tokens : List Token) × (tokens_of (printed tree) ≡ Ok tokens) × (map unplaced (words_of (printed tree) tokens) ≡ map unplaced (spelling tree))
printed_again tree all spaced =
    let below : AllByRecursion Proper (words_after tree) = all.1.1 in
    let spelled : AllByRecursion (λ (w : Written). Spells w.kind w.text) (laid_out tree) = (all.0, (all.1.0, written_proper (words_after tree) below)) in
    let head : Words → Words = λ xs. plain k.Lucy nowhere ∷ plain (k.Number tree.version.value) nowhere ∷ xs in (
      placed 0 (laid_out tree),
      spaced (laid_out tree) (All-from_recursion (λ (w : Written). Spells w.kind w.text) (laid_out tree) spelled),
      words_back (printed tree) [] 0 (laid_out tree) refl refl ∙ ap head (all_back (words_after tree) below),
    )

pub again : ReadIsSpelled → SpansAscend → SlicesAreSpelled → SpacedTokensAreRead → PrintedIsSpelled
again read ascend sliced spaced text tree h =
    let r = read text tree h in
    let proper : AllByRecursion Proper (words_of text r.0) =
    proper_words text 0 r.0 (ascend text r.0 r.1) (recursion_from_All (λ t. Spells t.kind (slice_of text t)) r.0 (sliced text r.0 r.1)) in
    printed_again tree (subst (λ (ws : Words). AllByRecursion Proper ws) r.2 proper) spaced
