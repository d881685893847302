-- Pieces that are put together, and cut again.
use Rattle.std.proofs.Common.{◌≡◌, ℕ, Bool, true, false, eqb, nat_le, not, List, [], ◌∷◌, ◌++◌, Option, Some, None, refl, ap, ◌∙◌, arith}
use Rattle.std.proofs.lemmas.Bool.Decides.{nat_tests}
use Rattle.std.proofs.lemmas.List.{append-nil}
use Rattle.std.specs.List.{list_all}
use Rattle.std.specs.Option.{option_map}
use Rattle.lucy_cert.specs.Cutting.{behind_byte, cut, onto, pieces, behind_spaces, spaced}
use Rattle.lucy_cert.proofs.Tests.{parts_of, weaken, all_append}

-- a piece: each byte is above the space
abbrev pub is_solid : List ℕ → Bool
is_solid p = list_all (nat_le 33) p

abbrev pub are_solid : List (List ℕ) → Bool
are_solid ps = list_all is_solid ps

-- no byte is this one
abbrev pub lacks : ℕ → List ℕ → Bool
lacks b text = list_all (λ c. not (eqb c b)) text

other : (c b : ℕ) → not (eqb c b) ≡ true → eqb c b ≡ false
other c b e = grind (arith, nat_tests)

pub cut_lacking : (b : ℕ) (text : List ℕ) → lacks b text ≡ true → cut b text ≡ None
cut_lacking b [] e = refl
cut_lacking b (c ∷ cs) e =
    let t = parts_of (not (eqb c b)) (lacks b cs) e in
    rw (other c b t.0) (ap (λ (o : Option (List ℕ × List ℕ)). option_map (behind_byte c) o) (cut_lacking b cs t.1))

same : (b : ℕ) → eqb b b ≡ true
same b = grind (arith, nat_tests)

pub cut_behind : (b : ℕ) (text rest : List ℕ) → lacks b text ≡ true → cut b (text ++ b ∷ rest) ≡ Some (text, rest)
cut_behind b [] rest e = rw (same b) refl
cut_behind b (c ∷ cs) rest e =
    let t = parts_of (not (eqb c b)) (lacks b cs) e in
    rw (other c b t.0) (ap (λ (o : Option (List ℕ × List ℕ)). option_map (behind_byte c) o) (cut_behind b cs rest t.1))

no_space : (c : ℕ) → nat_le 33 c ≡ true → eqb c 32 ≡ false
no_space c e = grind (arith, nat_tests)

pieces_cut : (p rest : List ℕ) → is_solid p ≡ true → pieces (p ++ 32 ∷ rest) ≡ p ∷ pieces rest
pieces_cut [] rest e = refl
pieces_cut (c ∷ cs) rest e =
    let t = parts_of (nat_le 33 c) (is_solid cs) e in
    rw (no_space c t.0) (ap (onto c) (pieces_cut cs rest t.1))

pieces_one : (p : List ℕ) → is_solid p ≡ true → pieces p ≡ p ∷ []
pieces_one [] e = refl
pieces_one (c ∷ cs) e =
    let t = parts_of (nat_le 33 c) (is_solid cs) e in
    rw (no_space c t.0) (ap (onto c) (pieces_one cs t.1))

-- the pieces of a line that was put together of pieces
pub pieces_back : (p : List ℕ) (ps : List (List ℕ)) → are_solid (p ∷ ps) ≡ true → pieces (spaced (p ∷ ps)) ≡ p ∷ ps
pieces_back p [] e = ap pieces (append-nil p) ∙ pieces_one p (parts_of (is_solid p) true e).0
pieces_back p (q ∷ qs) e =
    let t = parts_of (is_solid p) (are_solid (q ∷ qs)) e in
    pieces_cut p (spaced (q ∷ qs)) t.0 ∙ ap (λ (rest : List (List ℕ)). p ∷ rest) (pieces_back q qs t.1)

no_lf : (c : ℕ) → nat_le 33 c ≡ true → not (eqb c 10) ≡ true
no_lf c e = grind (arith, nat_tests)

behind_lacks : (ps : List (List ℕ)) → are_solid ps ≡ true → lacks 10 (behind_spaces ps) ≡ true
behind_lacks [] e = refl
behind_lacks (p ∷ ps) e =
    let t = parts_of (is_solid p) (are_solid ps) e in
    all_append (λ c. not (eqb c 10)) p (behind_spaces ps) (weaken (nat_le 33) (λ c. not (eqb c 10)) no_lf p t.0) (behind_lacks ps t.1)

-- a line has no LF
pub spaced_lacks : (p : List ℕ) (ps : List (List ℕ)) → are_solid (p ∷ ps) ≡ true → lacks 10 (spaced (p ∷ ps)) ≡ true
spaced_lacks p ps e = behind_lacks (p ∷ ps) e
