-- The words of a text can be written: a name is a name, and a number is one that is read.
use Rattle.std.proofs.Common.{◌≡◌, ℕ, ◌+◌, ◌≤◌, ◌<◌, ◌^◌, Bool, true, false, cond as if_then, fold, ◌&&◌, List, [], ◌∷◌, length, map, refl, sym, ap, subst, arith}
use Rattle.std.proofs.lemmas.Str.Parse.{IsNumeralModel, numerals_by_fold, tells_all_ascii_digits}
use Rattle.std.proofs.lemmas.Fmt.{decimal_nonempty, digits_decimal, digits_value-decimal}
use Rattle.std.specs.Str.{all_ascii_digits}
use Rattle.std.specs.Char.{is_ascii_digit}
use Rattle.std.specs.Fmt.{decimal}
use Rattle.std.specs.List.{AllByRecursion}
use Rattle.lucy_lexer.specs.declared.bytes.Class.TheVariants as class
use Rattle.lucy_lexer.specs.declared.token.Token.{Token}
use Rattle.lucy_lexer.specs.declared.token.TokenKind.{TokenKind}
use Rattle.lucy_lexer.specs.declared.token.TokenKind.TheVariants as k
use Rattle.lucy_lexer.specs.Bytes.{Text, run, value_of, with_digit}
use Rattle.lucy_lexer.specs.Laws.{IsName, IsNumber, Spells, Ascends, slice_of, Written}
use Rattle.lucy_tree.specs.declared.marks.Span.{Span}
use Rattle.lucy_tree.specs.Words.{Word, Words}
use Rattle.lucy_syntax.specs.Input.{part, word_by, words_of}
use Rattle.lucy_syntax.proofs.Cutting.{all_words}
use Rattle.lucy_print.specs.Layout.{written_word}

own : IsNumeralModel (λ ds. all_ascii_digits ds ≡ true) value_of
own = numerals_by_fold _ tells_all_ascii_digits (λ n ds. fold with_digit n ds) (record { empty = λ n. refl; more = λ n c cs _. ap (λ m. fold with_digit m cs) (omega arith) })

run_all : (ds : List ℕ) → all_ascii_digits ds ≡ true → run class.Digit ds ≡ length ds
run_all [] h = refl
run_all (c ∷ cs) h = by (is_ascii_digit c) h (run_all cs)
  where
    by : (t : Bool) → (t && all_ascii_digits cs) ≡ true → (all_ascii_digits cs ≡ true → run class.Digit cs ≡ length cs) → if_then t (1 + run class.Digit cs) 0 ≡ length (c ∷ cs)
    by true g inner = let e = inner g in omega (arith, e)
    by false g inner = absurd cc

pub number_is : (n : ℕ) → n ≤ 2 ^ 62 → IsNumber n (decimal n)
number_is n small =
    let less : n < 2 ^ 64 = omega (arith, small) in
    record { some = decimal_nonempty n less; digits = run_all (decimal n) (digits_decimal own n less); value = digits_value-decimal own n less; small = small }

-- what is written for the word is a token of its kind
abbrev pub Proper : Word → Type 0
Proper w = Spells (written_word w).kind (written_word w).text

proper_by : (text : Text) (kind : TokenKind) (s : Span) (z : Text) → part s text ≡ z → Spells kind z → Proper (word_by text s kind)
proper_by text k.Name s z e h = subst IsName (sym e) h
proper_by text (k.Number n) s z e h = number_is n h.small
proper_by text kind s z e h = refl

pub proper_words : (text : Text) (at : ℕ) (ts : List Token) → Ascends at (length text) ts → AllByRecursion (λ t. Spells t.kind (slice_of text t)) ts → AllByRecursion Proper (words_of text ts)
proper_words = all_words Proper proper_by

pub written_proper : (ws : Words) → AllByRecursion Proper ws → AllByRecursion (λ (w : Written). Spells w.kind w.text) (map written_word ws)
written_proper [] all = tt
written_proper (w ∷ ws) all = (all.0, written_proper ws all.1)
