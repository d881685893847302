-- Tokens one after the other, as the loop finds them.
use Rattle.std.proofs.Common.{◌≡◌, ℕ, zero, suc, ◌+◌, ◌-◌, ◌≤◌, ◌<◌, List, [], ◌∷◌, ◌++◌, length, drop, Ok, Err, refl, sym, ap, ◌∙◌, append_assoc, take, arith, length-drop}
use Rattle.std.proofs.lemmas.List.{append-nil, drop-drop, drop_all, take_rest}
use Rattle.lucy_lexer.specs.declared.front.Front.{Front}
use Rattle.lucy_lexer.specs.declared.front.Front.TheVariants as front
use Rattle.lucy_lexer.specs.declared.error.LexError.{LexError}
use Rattle.lucy_lexer.specs.declared.token.Token.{Token}
use Rattle.lucy_lexer.specs.declared.token.TokenKind.{TokenKind}
use Rattle.lucy_lexer.specs.Bytes.{Text}
use Rattle.lucy_lexer.specs.Front.{foremost}
use Rattle.lucy_lexer.specs.Reading.{Tokens, before, followed, len_of, tokens_from}

-- what was found before, and what is still to be found
abbrev pub with_front : List Token → Tokens → Tokens
with_front front (Ok ts) = Ok (front ++ ts)
with_front front (Err e) = Err e

drops-append : (front : List Token) (t : Token) (others : Tokens) → with_front front (before others t) ≡ with_front (front ++ t ∷ []) others
drops-append front t (Ok ts) = ap Ok (simp append_assoc)
drops-append front t (Err e) = refl

-- bytes that belong to what was found are passed
passed : (left at : ℕ) (z : Text) → tokens_from at left z ≡ tokens_from (at + left) 0 (drop left z)
passed zero at z = let e : at + 0 ≡ at = omega arith in sym (ap (λ n. tokens_from n 0 z) e)
passed (suc left) at [] = refl
passed (suc left) at (b ∷ z) =
    let e : at + 1 + left ≡ at + suc left = omega arith in
    passed left (at + 1) z ∙ ap (λ n. tokens_from n 0 (drop left z)) e

pub goes : (at len : ℕ) (z : Text) → 1 ≤ len → len ≤ length z → len_of (foremost z) ≡ len
    → tokens_from at 0 z ≡ followed at (foremost z) (tokens_from (at + len) 0 (drop len z))
goes at zero z some within e = absurd (omega arith)
goes at (suc len) [] some within e = absurd (omega arith)
goes at (suc len) (b ∷ z) some within e =
    let n : len_of (foremost (b ∷ z)) - 1 ≡ len = omega arith in
    let m : at + 1 + len ≡ at + suc len = omega arith in
    ap (followed at (foremost (b ∷ z))) (ap (λ k. tokens_from (at + 1) k z) n ∙ passed len (at + 1) z ∙ ap (λ k. tokens_from k 0 (drop len z)) m)

pub stops : (at : ℕ) (z : Text) → 0 < length z → (others : Tokens) × (tokens_from at 0 z ≡ followed at (foremost z) others)
stops at [] some = absurd (omega arith)
stops at (b ∷ z) some = (tokens_from (at + 1) (len_of (foremost (b ∷ z)) - 1) z, refl)

-- the text from a place on, as a slice of it
abbrev pub rest_of : ℕ → Text → Text
rest_of at z = take (length z - at) (drop at z)

goes_at : (at len : ℕ) (z : Text) (f : Front) → f ≡ foremost (rest_of at z) → len_of f ≡ len → 1 ≤ len → len ≤ length (rest_of at z)
    → tokens_from at 0 (drop at z) ≡ followed at f (tokens_from (at + len) 0 (drop (at + len) z))
goes_at at len z f is long some within =
    let e : rest_of at z ≡ drop at z = take_rest z at in
    let is' : foremost (drop at z) ≡ f = sym (is ∙ ap foremost e) in
    goes at len (drop at z) some (rw (← e) within) (ap len_of is' ∙ long)
    ∙ ap (λ g. followed at g (tokens_from (at + len) 0 (drop len (drop at z)))) is'
    ∙ ap (λ r. followed at f (tokens_from (at + len) 0 r)) (drop-drop len at z)

pub skips : (seen : List Token) (at len : ℕ) (z : Text) (total : Tokens) → front.Skipped len ≡ foremost (rest_of at z) → 1 ≤ len → len ≤ length (rest_of at z)
    → with_front seen (tokens_from at 0 (drop at z)) ≡ total → with_front seen (tokens_from (at + len) 0 (drop (at + len) z)) ≡ total
skips seen at len z total is some within so_far = sym (ap (with_front seen) (goes_at at len z (front.Skipped len) is refl some within)) ∙ so_far

pub finds : (seen : List Token) (at len : ℕ) (z : Text) (total : Tokens) (kind : TokenKind) → front.Found kind len ≡ foremost (rest_of at z) → 1 ≤ len → len ≤ length (rest_of at z)
    → with_front seen (tokens_from at 0 (drop at z)) ≡ total
    → with_front (seen ++ (record { kind = kind; start = at; end = at + len }) ∷ []) (tokens_from (at + len) 0 (drop (at + len) z)) ≡ total
finds seen at len z total kind is some within so_far =
    sym (ap (with_front seen) (goes_at at len z (front.Found kind len) is refl some within)
    ∙ drops-append seen (record { kind = kind; start = at; end = at + len }) (tokens_from (at + len) 0 (drop (at + len) z))) ∙ so_far

-- where nothing is found, that is the answer
pub is_bad : (seen : List Token) (at : ℕ) (z : Text) (total : Tokens) (f : Front) (e : LexError) → f ≡ foremost (rest_of at z) → at < length z
    → ((others : Tokens) → followed at f others ≡ Err e) → with_front seen (tokens_from at 0 (drop at z)) ≡ total → total ≡ Err e
is_bad seen at z total f e is below bad so_far =
    let there : 0 < length (drop at z) = omega (arith, length-drop at z) in
    let one = stops at (drop at z) there in
    let is' : foremost (drop at z) ≡ f = sym (is ∙ ap foremost (take_rest z at)) in
    sym so_far ∙ ap (with_front seen) (one.1 ∙ ap (λ g. followed at g one.0) is' ∙ bad one.0)

pub is_done : (seen : List Token) (at : ℕ) (z : Text) (total : Tokens) → length z ≤ at → with_front seen (tokens_from at 0 (drop at z)) ≡ total → total ≡ Ok seen
is_done seen at z total past so_far = sym so_far ∙ rw (drop_all at z past) (ap Ok (append-nil seen))
