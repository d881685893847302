-- Texts cut at a byte.
use Rattle.std.proofs.Common.{◌≡◌, ◌≢◌, ℕ, zero, suc, ◌<◌, Bool, true, false, cond, eqb, List, [], ◌∷◌, length, get_or, take, drop, Option, Some, None, refl, sym, ap, ◌∙◌, arith}
use Rattle.std.proofs.lemmas.Bool.{false_from_ne_true, eqb-true}
use Rattle.std.proofs.lemmas.Bool.Decides.{nat_tests}
use Rattle.std.specs.Option.{option_map}
use Rattle.lucy_cert.specs.Cutting.{behind_byte, cut, onto, pieces}

other_byte : (b c : ℕ) → c ≢ b → eqb c b ≡ false
other_byte b c ne = false_from_ne_true (eqb c b) (λ e. ne (eqb-true c b e))

same_byte : (b c : ℕ) → c ≡ b → eqb c b ≡ true
same_byte b c is = grind (arith, nat_tests)

-- the first such byte stands at i
pub cut_at : (b : ℕ) (text : List ℕ) (i : ℕ) → i < length text → ((k : ℕ) → k < i → get_or text k 0 ≢ b) → get_or text i 0 ≡ b → cut b text ≡ Some (take i text, drop (suc i) text)
cut_at b [] i lt none is = absurd (omega arith)
cut_at b (c ∷ cs) zero lt none is = rw (same_byte b c is) refl
cut_at b (c ∷ cs) (suc i) lt none is =
    rw (other_byte b c (none 0 (omega arith))) (ap (λ (o : Option (List ℕ × List ℕ)). option_map (behind_byte c) o) (cut_at b cs i (omega arith) (λ k lt'. none (suc k) (omega arith)) is))

pub cut_none : (b : ℕ) (text : List ℕ) → ((k : ℕ) → k < length text → get_or text k 0 ≢ b) → cut b text ≡ None
cut_none b [] none = refl
cut_none b (c ∷ cs) none =
    rw (other_byte b c (none 0 (omega arith))) (ap (λ (o : Option (List ℕ × List ℕ)). option_map (behind_byte c) o) (cut_none b cs (λ k lt'. none (suc k) (omega arith))))

-- the pieces of a text are its first piece and those behind it
abbrev pub pieces_by : List ℕ → Option (List ℕ × List ℕ) → List (List ℕ)
pieces_by text None = text ∷ []
pieces_by text (Some p) = p.0 ∷ pieces p.1

onto_by : (c : ℕ) (cs : List ℕ) (o : Option (List ℕ × List ℕ)) → onto c (pieces_by cs o) ≡ pieces_by (c ∷ cs) (option_map (behind_byte c) o)
onto_by c cs None = refl
onto_by c cs (Some p) = refl

pub pieces_are : (text : List ℕ) → pieces text ≡ pieces_by text (cut 32 text)
pieces_are [] = refl
pieces_are (c ∷ cs) = by (eqb c 32) (ap (onto c) (pieces_are cs) ∙ onto_by c cs (cut 32 cs))
  where
    by : (t : Bool) → onto c (pieces cs) ≡ pieces_by (c ∷ cs) (option_map (behind_byte c) (cut 32 cs))
        → cond t ([] ∷ pieces cs) (onto c (pieces cs)) ≡ pieces_by (c ∷ cs) (cond t (Some ([], cs)) (option_map (behind_byte c) (cut 32 cs)))
    by true e = refl
    by false e = e

-- there is a piece
some_by : (text : List ℕ) (o : Option (List ℕ × List ℕ)) → pieces_by text o ≢ []
some_by text None = λ e. cc
some_by text (Some p) = λ e. cc

pub some_piece : (text : List ℕ) → pieces text ≢ []
some_piece text = λ e. some_by text (cut 32 text) (sym (pieces_are text) ∙ e)
