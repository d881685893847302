-- Numbers that digits spell.
use Rattle.std.proofs.Common.{◌≡◌, ℕ, suc, ◌≤◌, ◌<◌, List, [], ◌∷◌, length, get_or, drop, fold, ap, drop-cons, arith}
use Rattle.lucy_lexer.specs.Bytes.{with_digit}

-- more digits make no smaller number
pub fold_grows : (n : ℕ) (digits : List ℕ) → n ≤ fold with_digit n digits
fold_grows n [] = omega arith
fold_grows n (b ∷ digits) = omega (arith, fold_grows (with_digit n b) digits)

pub one_digit : (n i total : ℕ) (digits : List ℕ) → i < length digits → fold with_digit n (drop i digits) ≡ total → with_digit n (get_or digits i 0) ≤ total
one_digit n i total digits below so_far =
    let e : fold with_digit n (drop i digits) ≡ fold with_digit (with_digit n (get_or digits i 0)) (drop (suc i) digits) = ap (fold with_digit n) (drop-cons digits i 0 below) in
    omega (arith, fold_grows (with_digit n (get_or digits i 0)) (drop (suc i) digits), e, so_far)
