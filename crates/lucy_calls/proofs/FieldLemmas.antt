-- What stands between spaces.
use Rattle.std.proofs.Common.{◌≡◌, ◌≢◌, ℕ, zero, suc, ◌-◌, ◌<◌, ◌≤◌, true, false, eqb, nat_eq, List, [], ◌∷◌, length, get_or, take, drop, refl, ap, ◌∙◌, arith}
use Rattle.std.proofs.lemmas.Bool.{false_from_ne_true, eqb-true}
use Rattle.std.proofs.lemmas.Bool.Decides.{nat_tests}
use Rattle.lucy_calls.specs.Lines.{onto}
use Rattle.lucy_calls.specs.Fields.{pieces, ends_spaced}

not_space : (b : ℕ) → b ≢ 32 → eqb b 32 ≡ false
not_space b ne = false_from_ne_true (eqb b 32) (λ e. ne (eqb-true b 32 e))

is_space : (b : ℕ) → b ≡ 32 → eqb b 32 ≡ true
is_space b is = grind (arith, nat_tests)

-- the first space stands at i
pub piece_at : (text : List ℕ) (i : ℕ) → i < length text → ((k : ℕ) → k < i → get_or text k 0 ≢ 32) → get_or text i 0 ≡ 32 → pieces text ≡ take i text ∷ pieces (drop (suc i) text)
piece_at [] i lt none is = absurd (omega arith)
piece_at (b ∷ bs) zero lt none is = rw (is_space b is) refl
piece_at (b ∷ bs) (suc i) lt none is =
    rw (not_space b (none 0 (omega arith))) (ap (onto b) (piece_at bs i (omega arith) (λ k lt'. none (suc k) (omega arith)) is))

pub no_space : (text : List ℕ) → ((k : ℕ) → k < length text → get_or text k 0 ≢ 32) → pieces text ≡ text ∷ []
no_space [] none = refl
no_space (b ∷ bs) none = rw (not_space b (none 0 (omega arith))) (ap (onto b) (no_space bs (λ k lt. none (suc k) (omega arith))))

pub last_is : (line : List ℕ) → 1 ≤ length line → nat_eq (get_or line (length line - 1) 0) 32 ≡ ends_spaced line
last_is [] some = absurd (omega arith)
last_is (b ∷ []) some = refl
last_is (b ∷ c ∷ bs) some =
    let long : length (b ∷ c ∷ bs) - 1 ≡ suc (length (c ∷ bs) - 1) = omega arith in
    ap (λ n. nat_eq (get_or (b ∷ c ∷ bs) n 0) 32) long ∙ last_is (c ∷ bs) (omega arith)
