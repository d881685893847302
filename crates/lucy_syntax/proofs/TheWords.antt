-- The kind and the place of a word are those of its token.
use Rattle.std.proofs.Common.{◌≡◌, ℕ, ◌≤◌, List, [], ◌∷◌, length, take, ◌-◌, drop, sym, slice_index_or, Bool, true, false, cond as if_then, Option, Some, None, Ok, refl, ap, ◌∙◌, arith}
use Rattle.std.proofs.lemmas.List.{take_rest}
use Rattle.lucy_lexer.specs.Kind.{is_kind}
use Rattle.lucy_lexer.specs.declared.token.Token.{Token}
use Rattle.lucy_lexer.specs.declared.token.TokenKind.{TokenKind}
use Rattle.lucy_lexer.specs.declared.token.TokenKind.TheVariants as k
use Rattle.lucy_tree.specs.declared.marks.Span.{Span}
use Rattle.lucy_tree.specs.Words.{Word, kind_of, span_of}
use Rattle.lucy_syntax.specs.Input.{Input, Outcome, word_by, word_of, words_of, span_at, eat, input_of}

kind_by : (text : List ℕ) (s : Span) (kind : TokenKind) → kind_of (word_by text s kind) ≡ kind
kind_by text s k.Name = refl
kind_by text s _ = refl

pub kind_is : (text : List ℕ) (t : Token) → kind_of (word_of text t) ≡ t.kind
kind_is text t = kind_by text (span_at t) t.kind

span_by : (text : List ℕ) (s : Span) (kind : TokenKind) → span_of (word_by text s kind) ≡ s
span_by text s k.Name = refl
span_by text s _ = refl

pub span_is : (text : List ℕ) (t : Token) → span_of (word_of text t) ≡ span_at t
span_is text t = span_by text (span_at t) t.kind

abbrev done : Option Span × Input → Outcome (Option Span)
done p = Ok p

-- a token of the kind is read
pub eats : (kind : TokenKind) (text : List ℕ) (t : Token) (ts : List Token) (end : ℕ) → is_kind t.kind kind ≡ true
    → eat kind (input_of (words_of text (t ∷ ts)) end) ≡ Ok (Some (span_at t), input_of (words_of text ts) end)
unfolding eat
eats kind text t ts end same = by (word_of text t) (is_kind (kind_of (word_of text t)) kind) (ap (λ n. is_kind n kind) (kind_is text t) ∙ same) (span_is text t)
  where
    by : (w : Word) (b : Bool) → b ≡ true → span_of w ≡ span_at t
        → if_then b (done (Some (span_of w), input_of (words_of text ts) end)) (done (None, input_of (w ∷ words_of text ts) end)) ≡ Ok (Some (span_at t), input_of (words_of text ts) end)
    by w true e s = ap (λ span. done (Some span, input_of (words_of text ts) end)) s
    by w false e s = absurd cc

pub eats_first : (kind : TokenKind) (text : List ℕ) (d : Token) (ts : List Token) (end : ℕ) → 1 ≤ length ts → is_kind (slice_index_or ts 0 d).kind kind ≡ true
    → eat kind (input_of (words_of text ts) end) ≡ Ok (Some (span_at (slice_index_or ts 0 d)), input_of (words_of text (take (length ts - 1) (drop 1 ts))) end)
eats_first kind text d [] end some same = absurd (omega arith)
eats_first kind text d (t ∷ ts) end some same = eats kind text t ts end same ∙ ap (λ us. done (Some (span_at t), input_of (words_of text us) end)) (sym (take_rest (t ∷ ts) 1))
