-- The words of a text, cut out at their places.
use Rattle.std.proofs.Common.{◌≡◌, ℕ, ◌+◌, ◌-◌, ◌≤◌, nat_le, true, List, [], ◌∷◌, ◌++◌, length, take, drop, refl, ap, ◌∙◌, append_assoc, arith, length-append}
use Rattle.std.proofs.Math.Seq.{drop-append_seam, take-append_seam}
use Rattle.std.proofs.lemmas.Bool.Decides.{nat_tests}
use Rattle.std.specs.List.{AllByRecursion}
use Rattle.lucy_lexer.specs.declared.token.Token.{Token}
use Rattle.lucy_lexer.specs.declared.token.TokenKind.{TokenKind}
use Rattle.lucy_lexer.specs.Bytes.{Text}
use Rattle.lucy_lexer.specs.Laws.{Spells, Ascends, slice_of, Written, separator_byte, written_text}
use Rattle.lucy_tree.specs.declared.marks.Span.{Span}
use Rattle.lucy_tree.specs.Words.{Word}
use Rattle.lucy_syntax.specs.Input.{part, span_at, word_by, words_of}

pub part_is : (s : Span) (text : Text) → s.start ≤ s.end → s.end ≤ length text → part s text ≡ take (s.end - s.start) (drop s.start text)
unfolding part
part_is s text low high =
    let one : nat_le s.start s.end ≡ true = grind (arith, nat_tests) in
    let two : nat_le s.end (length text) ≡ true = grind (arith, nat_tests) in
    rw (one, two) refl

-- ---- what holds of each word that is cut out by a token

end_within : (at end : ℕ) (ts : List Token) → Ascends at end ts → at ≤ end
end_within at end [] h = h
end_within at end (t ∷ ts) h = let a = h.0 in let b = h.1 in let c = end_within t.end end ts h.2 in omega (arith, a, b, c)

module _ (P : Word → Type 0) (one : (text : Text) (kind : TokenKind) (s : Span) (z : Text) → part s text ≡ z → Spells kind z → P (word_by text s kind)) where
  pub all_words : (text : Text) (at : ℕ) (ts : List Token) → Ascends at (length text) ts → AllByRecursion (λ t. Spells t.kind (slice_of text t)) ts → AllByRecursion P (words_of text ts)
  all_words text at [] up all = tt
  all_words text at (t ∷ ts) up all =
      let a = up.1 in
      let b = end_within t.end (length text) ts up.2 in
      (one text t.kind (span_at t) (slice_of text t) (part_is (span_at t) text (omega (arith, a)) b) all.0, all_words text t.end ts up.2 all.1)

-- ---- a written word is cut out again

cut_out : (before text after : Text) → take (length before + length text - length before) (drop (length before) (before ++ (text ++ after))) ≡ text
cut_out before text after =
    let n : length before + length text - length before ≡ length text = omega arith in
    ap (λ m. take m (drop (length before) (before ++ (text ++ after)))) n
    ∙ ap (λ z. take (length text) z) (drop-append_seam before (text ++ after))
    ∙ take-append_seam text after

part_there : (whole before text after : Text) → whole ≡ before ++ (text ++ after) → part (record { start = length before; end = length before + length text }) whole ≡ text
part_there whole before text after e =
    let long : length whole ≡ length before + length (text ++ after) = ap length e ∙ length-append before (text ++ after) in
    let more : length (text ++ after) ≡ length text + length after = length-append text after in
    part_is (record { start = length before; end = length before + length text }) whole (omega arith) (omega (arith, long, more))
    ∙ ap (λ z. take (length before + length text - length before) (drop (length before) z)) e
    ∙ cut_out before text after

-- what is left of a text after one word of it
pub record Left (whole before : Text) (w : Written) (ws : List Written) (at : ℕ) : Type 0 where
  pub here : part (record { start = at; end = at + length w.text }) whole ≡ w.text
  pub next : Text
  pub rest : whole ≡ next ++ written_text ws
  pub place : at + length w.text + 1 ≡ length next

pub after_one : (whole before : Text) (w : Written) (ws : List Written) (at : ℕ) → whole ≡ before ++ written_text (w ∷ ws) → at ≡ length before → Left whole before w ws at
after_one whole before w ws at e l =
    let one : length (before ++ (w.text ++ (separator_byte w.after ∷ []))) ≡ length before + length (w.text ++ (separator_byte w.after ∷ [])) = length-append before (w.text ++ (separator_byte w.after ∷ [])) in
    let two : length (w.text ++ (separator_byte w.after ∷ [])) ≡ length w.text + 1 = length-append w.text (separator_byte w.after ∷ []) in
    record {
      here = ap (λ n. part (record { start = n; end = n + length w.text }) whole) l ∙ part_there whole before w.text (separator_byte w.after ∷ written_text ws) e;
      next = before ++ (w.text ++ (separator_byte w.after ∷ []));
      rest = e ∙ simp append_assoc;
      place = omega (arith, l, one, two);
    }
