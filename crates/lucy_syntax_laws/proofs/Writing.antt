-- Words that can be written: the text of some words has tokens, and they are those words, places aside.
use Rattle.std.proofs.Common.{◌≡◌, ℕ, ◌+◌, List, [], ◌∷◌, ◌++◌, length, refl, sym, subst}
use Rattle.std.specs.List.{AllByRecursion}
use Rattle.lucy_lexer.specs.declared.token.Token.{Token}
use Rattle.lucy_lexer.specs.declared.token.TokenKind.{TokenKind}
use Rattle.lucy_lexer.specs.declared.token.TokenKind.TheVariants as k
use Rattle.lucy_lexer.specs.Bytes.{Text}
use Rattle.lucy_lexer.specs.Laws.{IsName, Spells, Ascends, slice_of, Written, space, written_text, placed}
use Rattle.lucy_tree.specs.declared.marks.Span.{Span}
use Rattle.lucy_tree.specs.Words.{Word, Words, called, plain}
use Rattle.lucy_syntax.specs.Input.{part, word_by, words_of}
use Rattle.lucy_syntax.proofs.Writable.{Proper}
use Rattle.lucy_syntax.proofs.Cutting.{all_words, after_one}
use Rattle.lucy_syntax_laws.specs.Laws.{IsSame, AreSame}

-- ---- the words of a text

proper_by : (text : Text) (kind : TokenKind) (s : Span) (z : Text) → part s text ≡ z → Spells kind z → Proper (word_by text s kind)
proper_by text k.Name s z e h = subst IsName (sym e) h
proper_by text kind s z e h = record { text = z; spells = h; stays = λ whole place. refl }

pub proper_words : (text : Text) (at : ℕ) (ts : List Token) → Ascends at (length text) ts → AllByRecursion (λ t. Spells t.kind (slice_of text t)) ts → AllByRecursion Proper (words_of text ts)
proper_words = all_words Proper proper_by

-- ---- lists

pub all_first : (us vs : Words) → AllByRecursion Proper (us ++ vs) → AllByRecursion Proper us
all_first [] vs all = tt
all_first (u ∷ us) vs all = (all.0, all_first us vs all.1)

-- ---- the text of words

abbrev pub written_words : (ws : Words) → AllByRecursion Proper ws → List Written
written_words [] all = []
written_words (called text s ∷ ws) all = record { kind = k.Name; text = text; after = space } ∷ written_words ws all.1
written_words (plain kind s ∷ ws) all = record { kind = kind; text = all.0.text; after = space } ∷ written_words ws all.1

pub written_spells : (ws : Words) (all : AllByRecursion Proper ws) → AllByRecursion (λ (w : Written). Spells w.kind w.text) (written_words ws all)
written_spells [] all = tt
written_spells (called text s ∷ ws) all = (all.0, written_spells ws all.1)
written_spells (plain kind s ∷ ws) all = (all.0.spells, written_spells ws all.1)

pub words_back : (whole before : Text) (at : ℕ) (ws : Words) (all : AllByRecursion Proper ws) → whole ≡ before ++ written_text (written_words ws all) → at ≡ length before
    → AreSame (words_of whole (placed at (written_words ws all))) ws
words_back whole before at [] all e l = tt
words_back whole before at (called text s ∷ ws) all e l =
    let a = after_one whole before (record { kind = k.Name; text = text; after = space }) (written_words ws all.1) at e l in
    (a.here, words_back whole a.next (at + length text + 1) ws all.1 a.rest a.place)
words_back whole before at (plain kind s ∷ ws) all e l =
    let a = after_one whole before (record { kind = kind; text = all.0.text; after = space }) (written_words ws all.1) at e l in
    let P : Word → Type 0 = λ w. IsSame w (plain kind s) in
    (subst P (sym (all.0.stays whole (record { start = at; end = at + length all.0.text }))) refl, words_back whole a.next (at + length all.0.text + 1) ws all.1 a.rest a.place)
