-- A tree that was read is read again from its printed text.
use Rattle.std.proofs.Common.{◌≡◌, ℕ, ◌≤◌, List, [], ◌∷◌, length, map, Result, Ok, refl, sym, ap, subst, ◌∙◌}
use Rattle.lucy_lexer.specs.declared.token.TokenKind.TheVariants as k
use Rattle.lucy_lexer.specs.Laws.{SpansAscend, Written, written_text}
use Rattle.lucy_tree.specs.declared.marks.Span.{Span}
use Rattle.lucy_tree.specs.declared.plans.Tree.{Tree}
use Rattle.lucy_tree.specs.Words.{Word, Words, called, plain}
use Rattle.lucy_tree.specs.Spelling.{spelling}
use Rattle.lucy_tree.specs.Nesting.{nesting}
use Rattle.lucy_syntax.specs.declared.error.SyntaxError.{SyntaxError}
use Rattle.lucy_syntax.specs.Input.{words_of}
use Rattle.lucy_syntax.specs.Laws.{ReadIsSpelled, ReadIsWithin, SpelledIsRead}
use Rattle.lucy_print.specs.Layout.{written_word, written_kind, written_version, words_after, printed}
use Rattle.lucy_print_laws.specs.Laws.{unplaced, PrintedIsSpelled, PrintedIsRead, PlacesAreNotPrinted, PrintedAgainIsSame}
use Rattle.lucy_print_laws.specs.Moving.{moved_word, moved}
use Rattle.lucy_print_laws.proofs.MovedPlans.{parts_move, spelling_moves, nesting_stays}
use Rattle.lucy_print_laws.proofs.Places.{beside, beside_fits, words_move}

pub read_again : ReadIsSpelled → ReadIsWithin → SpelledIsRead → SpansAscend → PrintedIsSpelled → PrintedIsRead
read_again read within spelled ascend print text tree h =
    let (tokens, lexed, words) = read text tree h in
    let (again, lexed_again, words_again) = print text tree h in
    let news : Words = words_of (printed tree) again in
    let to : Span → Span = beside tokens news in
    let same : map unplaced news ≡ map unplaced (words_of text tokens) = words_again ∙ ap (map unplaced) (sym words) in
    let moves : map (moved_word to) (words_of text tokens) ≡ news = words_move to text tokens news (beside_fits 0 (length text) tokens news (ascend text tokens lexed)) same in
    let spells : news ≡ spelling (moved to tree) = sym moves ∙ ap (map (moved_word to)) words ∙ sym (spelling_moves to tree).words in
    let fit : nesting (moved to tree) ≤ 64 = subst (λ (n : ℕ). n ≤ 64) (sym (nesting_stays to tree)) (within text tree h) in
    (to, spelled (printed tree) again (moved to tree) fit lexed_again spells)

-- ---- the places of a tree are not printed

written_as : (to : Span → Span) (w : Word) → written_word (moved_word to w) ≡ written_word w
written_as to (called text s) = refl
written_as to (plain kind s) = refl

all_written_as : (to : Span → Span) (ws : Words) → map written_word (map (moved_word to) ws) ≡ map written_word ws
all_written_as to [] = refl
all_written_as to (w ∷ ws) = ap (λ x. x ∷ map written_word (map (moved_word to) ws)) (written_as to w) ∙ ap (λ xs. written_word w ∷ xs) (all_written_as to ws)

pub unmoved : PlacesAreNotPrinted
unmoved to tree =
    ap (λ (ws : List Written). written_text (written_kind k.Lucy ∷ written_version tree.version.value ∷ ws))
    (ap (map written_word) (parts_move to tree).words ∙ all_written_as to (words_after tree))

abbrev made : Tree → Result Tree SyntaxError
made t = Ok t

one_tree : (t u : Tree) → made t ≡ made u → t ≡ u
one_tree t u e = cc

pub same_again : PrintedIsRead → PlacesAreNotPrinted → PrintedAgainIsSame
same_again read unplaced text tree again h e =
    let (to, back) = read text tree h in
    ap printed (one_tree again (moved to tree) (sym e ∙ back)) ∙ unplaced to tree
