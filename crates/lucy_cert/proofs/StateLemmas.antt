-- What the bytes of a text make of a state, line by line.
use Rattle.std.proofs.Common.{◌≡◌, ℕ, Bool, true, false, cond, eqb, List, [], ◌∷◌, ◌++◌, Option, Some, None, refl, sym, ap, ◌∙◌, append_assoc}
use Rattle.std.specs.Prelude.{fold}
use Rattle.std.specs.Option.{option_map}
use Rattle.std.proofs.lemmas.List.{append-nil}
use Rattle.std.proofs.lemmas.List.Sums.{fold-append}
use Rattle.lucy_cert.specs.declared.entries.Item.{Item}
use Rattle.lucy_cert.specs.declared.machine.Machine.{Machine}
use Rattle.lucy_cert.specs.declared.state.State.{State}
use Rattle.lucy_cert.specs.Cutting.{behind_byte, cut}
use Rattle.lucy_cert.specs.Reading.{state, moved_to, line_after, byte_after, after, line_ended, line_kept}

module _ {T : Type 0} (take : T → Item → T) where
  -- the state behind a text that is cut at its first LF
  abbrev pub cut_by : State T → List ℕ → Option (List ℕ × List ℕ) → State T
  cut_by s text None = line_kept s text
  cut_by s text (Some p) = fold (byte_after take) (line_ended take s p.0) p.1

  none_over : (carry : List ℕ) (lines : ℕ) (t : T) (text : List ℕ) → fold (byte_after take) (state carry lines None t) text ≡ state carry lines None t
  none_over carry lines t [] = refl
  none_over carry lines t (b ∷ bs) = none_over carry lines t bs

  none_by : (carry : List ℕ) (lines : ℕ) (t : T) (text : List ℕ) (o : Option (List ℕ × List ℕ)) → state carry lines None t ≡ cut_by (state carry lines None t) text o
  none_by carry lines t text None = refl
  none_by carry lines t text (Some p) = sym (none_over carry lines t p.1)

  -- the byte that stands in front of a cut text was carried
  carried : (carry : List ℕ) (lines : ℕ) (m : Machine) (t : T) (b : ℕ) (bs : List ℕ) (o : Option (List ℕ × List ℕ))
      → cut_by (state (carry ++ b ∷ []) lines (Some m) t) bs o ≡ cut_by (state carry lines (Some m) t) (b ∷ bs) (option_map (behind_byte b) o)
  carried carry lines m t b bs None = ap (λ (c : List ℕ). state c lines (Some m) t) (append_assoc carry (b ∷ []) bs)
  carried carry lines m t b bs (Some p) =
      ap (λ (c : List ℕ). fold (byte_after take) (moved_to take lines t (line_after m c)) p.1) (append_assoc carry (b ∷ []) p.0)

  some_over : (carry : List ℕ) (lines : ℕ) (m : Machine) (t : T) (text : List ℕ)
      → fold (byte_after take) (state carry lines (Some m) t) text ≡ cut_by (state carry lines (Some m) t) text (cut 10 text)
  some_over carry lines m t [] = ap (λ (c : List ℕ). state c lines (Some m) t) (sym (append-nil carry))
  some_over carry lines m t (b ∷ bs) = by (eqb b 10) (some_over (carry ++ b ∷ []) lines m t bs ∙ carried carry lines m t b bs (cut 10 bs))
    where
      by : (test : Bool) → fold (byte_after take) (state (carry ++ b ∷ []) lines (Some m) t) bs ≡ cut_by (state carry lines (Some m) t) (b ∷ bs) (option_map (behind_byte b) (cut 10 bs))
          → fold (byte_after take) (cond test (moved_to take lines t (line_after m carry)) (state (carry ++ b ∷ []) lines (Some m) t)) bs
          ≡ cut_by (state carry lines (Some m) t) (b ∷ bs) (cond test (Some ([], bs)) (option_map (behind_byte b) (cut 10 bs)))
      by true e = ap (λ (c : List ℕ). fold (byte_after take) (moved_to take lines t (line_after m c)) bs) (sym (append-nil carry))
      by false e = e

  over_by : (carry : List ℕ) (lines : ℕ) (o : Option Machine) (t : T) (text : List ℕ)
      → fold (byte_after take) (state carry lines o t) text ≡ cut_by (state carry lines o t) text (cut 10 text)
  over_by carry lines None t text = none_over carry lines t text ∙ none_by carry lines t text (cut 10 text)
  over_by carry lines (Some m) t text = some_over carry lines m t text

  -- a text is its first line and what stands behind it, or it has no LF
  pub cut_over : (s : State T) (text : List ℕ) → fold (byte_after take) s text ≡ cut_by s text (cut 10 text)
  cut_over s text = over_by s.carry s.lines s.machine s.taken text

-- a text in pieces is the whole text
pub pieces_are_whole : {T : Type 0} (take : T → Item → T) (s : State T) (xs ys : List ℕ) → after take (after take s xs) ys ≡ after take s (xs ++ ys)
unfolding after
pieces_are_whole take s xs ys = sym (fold-append (byte_after take) s xs ys)
