-- The layout of a printed tree: its words, each with what separates it from the next.
use Rattle.std.specs.Prelude.{ℕ, List, [], ◌∷◌, ◌++◌, map}
use Rattle.std.specs.Fmt.{decimal}
use Rattle.lucy_lexer.specs.declared.token.TokenKind.{TokenKind}
use Rattle.lucy_lexer.specs.declared.token.TokenKind.TheVariants as k
use Rattle.lucy_lexer.specs.Kind.{written}
use Rattle.lucy_lexer.specs.Laws.{Written, Separator, space, line_end, separator_byte, written_text}
use Rattle.lucy_tree.specs.declared.plans.Tree.{Tree}
use Rattle.lucy_tree.specs.declared.plans.Segment.{Segment}
use Rattle.lucy_tree.specs.Words.{Word, Words, called, plain, one, each, maybe}
use Rattle.lucy_tree.specs.Spelling.{name_words, except_words, object_words, start_words, invariant_words, txn_words, segment_words, depth_words}

-- a number is written in decimal, without leading zeros
abbrev pub kind_text : TokenKind → List ℕ
kind_text (k.Number n) = decimal n
kind_text kind = written kind

-- a line ends after `;`, `{`, `}` and the last token; a space follows any other
abbrev pub separator : TokenKind → Separator
separator k.Semicolon = line_end
separator k.OpenBrace = line_end
separator k.CloseBrace = line_end
separator k.End = line_end
separator kind = space

-- a token that is no name
abbrev pub written_kind : TokenKind → Written
written_kind kind = record { kind = kind; text = kind_text kind; after = separator kind }

abbrev pub text_of : Written → List ℕ
text_of w = w.text ++ separator_byte w.after ∷ []

abbrev pub written_word : Word → Written
written_word (called text s) = record { kind = k.Name; text = text; after = space }
written_word (plain kind s) = written_kind kind

-- the version number ends its line
abbrev pub written_version : ℕ → Written
written_version n = record { kind = k.Number n; text = decimal n; after = line_end }

-- the words after the version number
abbrev pub words_after : Tree → Words
words_after t =
    object_words t.object ++ start_words t.start ++ invariant_words t.invariant
    ++ each txn_words t.txns ++ each segment_words t.segments ++ maybe depth_words t.depth ++ one k.End t.end_word

abbrev pub laid_out : Tree → List Written
laid_out t = written_kind k.Lucy ∷ written_version t.version.value ∷ map written_word (words_after t)

-- the text of words, one after the other
abbrev pub laid : Words → List ℕ
laid ws = written_text (map written_word ws)

-- the text of a tree
abbrev pub printed : Tree → List ℕ
printed t = written_text (laid_out t)

-- the text of the words of each item, in order
abbrev pub texts : {A : Type 0} → (A → Words) → List A → List ℕ
texts f [] = []
texts f (x ∷ xs) = laid (f x) ++ texts f xs

-- the words of a segment after its condition
abbrev pub listed_words : Segment → Words
listed_words s = maybe except_words s.except ++ one k.Do s.do_word ++ each name_words s.txns ++ one k.Semicolon s.semicolon
