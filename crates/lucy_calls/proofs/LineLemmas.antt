-- The first line of a text.
use Rattle.std.proofs.Common.{◌≡◌, ◌≢◌, ℕ, suc, ◌-◌, ◌<◌, Bool, true, false, cond, eqb, ◌&&◌, List, [], ◌∷◌, ◌++◌, length, get_or, take, drop, refl, sym, ap, ◌∙◌, arith, drop-cons}
use Rattle.std.specs.List.{All}
use Rattle.std.proofs.lemmas.List.{take-append-drop, get_or-take, get_or_default, length-take}
use Rattle.std.proofs.lemmas.List.Elements.{All-tail}
use Rattle.std.proofs.lemmas.Bool.{false_from_ne_true, eqb-true}
use Rattle.std.proofs.lemmas.Bool.Decides.{nat_tests}
use lib.Pointwise.{pointwise}
use Rattle.lucy_calls.specs.Lines.{lines_of, onto, is_line_end}

not_lf : (b : ℕ) → b ≢ 10 → eqb b 10 ≡ false
not_lf b ne = false_from_ne_true (eqb b 10) (λ e. ne (eqb-true b 10 e))

and_false : (t : Bool) → (t && false) ≡ false
and_false true = refl
and_false false = refl

onto_line : (b : ℕ) (text : List ℕ) → b ≢ 10 → is_line_end text ≡ false → lines_of (b ∷ text) ≡ onto b (lines_of text)
onto_line b text ne other = rw (not_lf b ne, other, and_false (eqb b 13)) refl

-- a line without the CR that stands behind its first n bytes
abbrev pub plain_at : ℕ → List ℕ → List ℕ
plain_at n line = cond (pointwise eqb (drop n line) (13 ∷ [])) (take n line) line

abbrev pub plain_line : List ℕ → List ℕ
plain_line line = plain_at (length line - 1) line

one_by : (t : Bool) (b : ℕ) (rest : List (List ℕ)) → cond (t && true) ([] ∷ rest) (onto b ([] ∷ rest)) ≡ cond (t && true) [] (b ∷ []) ∷ rest
one_by true b rest = refl
one_by false b rest = refl

more_by : (t : Bool) (b : ℕ) (short long : List ℕ) → cond t (b ∷ short) (b ∷ long) ≡ b ∷ cond t short long
more_by true b short long = refl
more_by false b short long = refl

plain_more : (b c : ℕ) (bs : List ℕ) → plain_line (b ∷ c ∷ bs) ≡ b ∷ plain_line (c ∷ bs)
plain_more b c bs =
    let long : length (b ∷ c ∷ bs) - 1 ≡ suc (length (c ∷ bs) - 1) = omega arith in
    let n = length (c ∷ bs) - 1 in
    ap (λ m. plain_at m (b ∷ c ∷ bs)) long ∙ more_by (pointwise eqb (drop n (c ∷ bs)) (13 ∷ [])) b (take n (c ∷ bs)) (c ∷ bs)

pub line_ends : (line rest : List ℕ) → All (λ b. b ≢ 10) line → lines_of (line ++ 10 ∷ rest) ≡ plain_line line ∷ lines_of rest
line_ends [] rest none = refl
line_ends (b ∷ []) rest none = rw (not_lf b (none 0 0 (omega arith))) (one_by (eqb b 13) b (lines_of rest))
line_ends (b ∷ c ∷ bs) rest none =
    let later = line_ends (c ∷ bs) rest (All-tail (λ x. x ≢ 10) b (c ∷ bs) none) in
    onto_line b (c ∷ bs ++ 10 ∷ rest) (none 0 0 (omega arith)) (not_lf c (none 1 0 (omega arith))) ∙ ap (onto b) later
    ∙ ap (λ l. l ∷ lines_of rest) (sym (plain_more b c bs))

-- the first LF stands at i
pub first_line : (text : List ℕ) (i : ℕ) (line : List ℕ) → i < length text → ((k : ℕ) → k < i → get_or text k 0 ≢ 10) → get_or text i 0 ≡ 10
    → ((rest : List ℕ) → All (λ b. b ≢ 10) (take i text) → lines_of (take i text ++ 10 ∷ rest) ≡ line ∷ lines_of rest)
    → lines_of text ≡ line ∷ lines_of (drop (suc i) text)
first_line text i line lt none is ends =
    let early : All (λ b. b ≢ 10) (take i text) = λ k d lt'. none_before k d (omega (arith, length-take i text)) in
    let cut : text ≡ take i text ++ 10 ∷ drop (suc i) text = sym (take-append-drop i text) ∙ ap (λ s. take i text ++ s) (drop-cons text i 0 lt ∙ ap (λ b. b ∷ drop (suc i) text) is) in
    ap lines_of cut ∙ ends (drop (suc i) text) early
  where
    none_before : (k d : ℕ) → k < i → get_or (take i text) k d ≢ 10
    none_before k d lt' = rw (get_or-take i text k d lt') (rw (get_or_default text k d 0 (omega arith)) (none k lt'))

not_empty : (n : ℕ) → eqb (suc n) 0 ≡ false
not_empty n = grind (arith, nat_tests)

pub last_line : (text : List ℕ) → eqb (length text) 0 ≡ false → ((k : ℕ) → k < length text → get_or text k 0 ≢ 10) → lines_of text ≡ text ∷ []
last_line [] some none = absurd (cc)
last_line (b ∷ []) some none = rw (not_lf b (none 0 (omega arith)), and_false (eqb b 13)) refl
last_line (b ∷ c ∷ bs) some none =
    let later = last_line (c ∷ bs) (not_empty (length bs)) (λ k lt'. none (suc k) (omega arith)) in
    onto_line b (c ∷ bs) (none 0 (omega arith)) (not_lf c (none 1 (omega arith))) ∙ ap (onto b) later

pub with_return : (line rest front : List ℕ) → All (λ b. b ≢ 10) line → pointwise eqb (drop (length line - 1) line) (13 ∷ []) ≡ true → front ≡ take (length line - 1) line
    → lines_of (line ++ 10 ∷ rest) ≡ front ∷ lines_of rest
with_return line rest front none holds is =
    line_ends line rest none ∙ ap (λ t. cond t (take (length line - 1) line) line ∷ lines_of rest) holds ∙ ap (λ l. l ∷ lines_of rest) (sym is)

pub with_none : (line rest : List ℕ) → All (λ b. b ≢ 10) line → pointwise eqb (drop (length line - 1) line) (13 ∷ []) ≡ false → lines_of (line ++ 10 ∷ rest) ≡ line ∷ lines_of rest
with_none line rest none other = line_ends line rest none ∙ ap (λ t. cond t (take (length line - 1) line) line ∷ lines_of rest) other
