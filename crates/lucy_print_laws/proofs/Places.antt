-- Where each place of a text that was read is moved to, so that its words become given ones that differ from them in their places alone.
use Rattle.std.proofs.Common.{◌≡◌, ℕ, ◌<◌, ◌==◌, true, false, cond as if_then, List, [], ◌∷◌, map, refl, ap, ◌∙◌, arith}
use Rattle.std.proofs.lemmas.Bool.Decides.{nat_tests}
use Rattle.lucy_lexer.specs.declared.token.Token.{Token}
use Rattle.lucy_lexer.specs.Laws.{Ascends}
use Rattle.lucy_tree.specs.declared.marks.Span.{Span}
use Rattle.lucy_tree.specs.Words.{Word, Words, called, plain, span_of}
use Rattle.lucy_syntax.specs.Input.{span_at, word_of, words_of}
use Rattle.lucy_syntax.proofs.TheWords.{span_is}
use Rattle.lucy_print_laws.specs.Laws.{unplaced}
use Rattle.lucy_print_laws.specs.Moving.{moved_word}

-- the place of each token is moved to that of the word beside it; tokens are told apart by their starts
abbrev pub beside : List Token → Words → Span → Span
beside [] vs s = s
beside (t ∷ ts) [] s = s
beside (t ∷ ts) (v ∷ vs) s = if_then (t.start == s.start) (span_of v) (beside ts vs s)

-- each token is moved to the word beside it
abbrev pub Fits : (Span → Span) → List Token → Words → Type 0
Fits to [] vs = Unit {0}
Fits to (t ∷ ts) [] = Unit {0}
Fits to (t ∷ ts) (v ∷ vs) = (to (span_at t) ≡ span_of v) × Fits to ts vs

-- a token before all of these changes nothing
fits_above : (t : Token) (ts : List Token) (v : Word) (vs : Words) (at end : ℕ) (us : List Token) (ws : Words) → t.start < at → Ascends at end us
    → Fits (beside ts vs) us ws → Fits (beside (t ∷ ts) (v ∷ vs)) us ws
fits_above t ts v vs at end [] ws below up fits = tt
fits_above t ts v vs at end (u ∷ us) [] below up fits = tt
fits_above t ts v vs at end (u ∷ us) (w ∷ ws) below up fits =
    let a = up.0 in
    let b = up.1 in
    let other : (t.start == u.start) ≡ false = grind (arith, nat_tests) in (
      ap (λ test. if_then test (span_of v) (beside ts vs (span_at u))) other ∙ fits.0,
      fits_above t ts v vs u.end end us ws (omega (arith, below, a, b)) up.2 fits.1,
    )

pub beside_fits : (at end : ℕ) (ts : List Token) (vs : Words) → Ascends at end ts → Fits (beside ts vs) ts vs
beside_fits at end [] vs up = tt
beside_fits at end (t ∷ ts) [] up = tt
beside_fits at end (t ∷ ts) (v ∷ vs) up =
    let same : (t.start == t.start) ≡ true = grind (arith, nat_tests) in (
      ap (λ test. if_then test (span_of v) (beside ts vs (span_at t))) same,
      fits_above t ts v vs t.end end ts vs up.1 up.2 (beside_fits t.end end ts vs up.2),
    )

word_is : (to : Span → Span) (w v : Word) → unplaced v ≡ unplaced w → to (span_of w) ≡ span_of v → moved_word to w ≡ v
word_is to (called text s) (called text' s') e f = ap (λ p. called text p) f ∙ ap (λ z. called z s') (same e)
  where
    same : unplaced (called text' s') ≡ unplaced (called text s) → text ≡ text'
    same h = cc
word_is to (plain kind s) (plain kind' s') e f = ap (λ p. plain kind p) f ∙ ap (λ z. plain z s') (same e)
  where
    same : unplaced (plain kind' s') ≡ unplaced (plain kind s) → kind ≡ kind'
    same h = cc
word_is to (called text s) (plain kind s') e f = absurd cc
word_is to (plain kind s) (called text s') e f = absurd cc

abbrev bare : Words → Words
bare = map unplaced

first_is : (v w : Word) (vs ws : Words) → bare (v ∷ vs) ≡ bare (w ∷ ws) → unplaced v ≡ unplaced w
first_is v w vs ws e = cc

others_are : (v w : Word) (vs ws : Words) → bare (v ∷ vs) ≡ bare (w ∷ ws) → bare vs ≡ bare ws
others_are v w vs ws e = cc

-- words that are the same but for their places are moved to one another
pub words_move : (to : Span → Span) (text : List ℕ) (ts : List Token) (vs : Words) → Fits to ts vs → map unplaced vs ≡ map unplaced (words_of text ts) → map (moved_word to) (words_of text ts) ≡ vs
words_move to text [] [] fits e = refl
words_move to text [] (v ∷ vs) fits e = absurd cc
words_move to text (t ∷ ts) [] fits e = absurd cc
words_move to text (t ∷ ts) (v ∷ vs) fits e =
    ap (λ w. w ∷ map (moved_word to) (words_of text ts)) (word_is to (word_of text t) v (first_is v (word_of text t) vs (words_of text ts) e) (ap to (span_is text t) ∙ fits.0))
    ∙ ap (λ ws. v ∷ ws) (words_move to text ts vs fits.1 (others_are v (word_of text t) vs (words_of text ts) e))
