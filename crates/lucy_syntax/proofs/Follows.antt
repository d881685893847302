-- What may stand after each part of a condition, so that the part does not go on.
use Rattle.std.proofs.Common.{◌≡◌, ℕ, suc, Bool, true, false, Option, Some, refl, arith, nat_lt}
use Rattle.std.proofs.lemmas.Bool.Decides.{nat_tests}
use Rattle.lucy_lexer.specs.declared.token.TokenKind.{TokenKind}
use Rattle.lucy_lexer.specs.declared.token.TokenKind.TheVariants as k
use Rattle.lucy_syntax.proofs.Giving.{is_there}

-- the least part that a token goes on: a path, a product, a term, a comparison, a conjunction, a disjunction, a condition, or none of them
abbrev pub goes_on : Option TokenKind → ℕ
goes_on (Some k.Dot) = 0
goes_on (Some k.Star) = 1
goes_on (Some k.Plus) = 2
goes_on (Some k.Minus) = 2
goes_on (Some k.In) = 3
goes_on (Some k.LessEqual) = 3
goes_on (Some k.Less) = 3
goes_on (Some k.GreaterEqual) = 3
goes_on (Some k.Greater) = 3
goes_on (Some k.Equal) = 3
goes_on (Some k.NotEqual) = 3
goes_on (Some k.And) = 4
goes_on (Some k.Or) = 5
goes_on (Some k.Arrow) = 6
goes_on _ = 7

-- the token ends each part up to this one
abbrev pub ends : ℕ → Option TokenKind → Bool
ends part kind = nat_lt part (goes_on kind)

abbrev pub ends_path : Option TokenKind → Bool
ends_path kind = ends 0 kind

abbrev pub ends_product : Option TokenKind → Bool
ends_product kind = ends 1 kind

abbrev pub ends_term : Option TokenKind → Bool
ends_term kind = ends 2 kind

abbrev pub ends_unary : Option TokenKind → Bool
ends_unary kind = ends 3 kind

abbrev pub ends_conj : Option TokenKind → Bool
ends_conj kind = ends 4 kind

abbrev pub ends_disj : Option TokenKind → Bool
ends_disj kind = ends 5 kind

abbrev pub ends_cond : Option TokenKind → Bool
ends_cond kind = ends 6 kind

-- what ends a part ends those within it
narrower : (part n : ℕ) → nat_lt (suc part) n ≡ true → nat_lt part n ≡ true
narrower part n h = grind (arith, nat_tests)

pub within : (part : ℕ) (kind : Option TokenKind) → ends (suc part) kind ≡ true → ends part kind ≡ true
within part kind h = narrower part (goes_on kind) h

-- what ends a part is no token that goes on with it
pub no_dot : (kind : Option TokenKind) → ends_path kind ≡ true → is_there kind k.Dot ≡ false
no_dot (Some k.Dot) h = absurd cc
no_dot _ h = refl

pub no_star : (kind : Option TokenKind) → ends_product kind ≡ true → is_there kind k.Star ≡ false
no_star (Some k.Star) h = absurd cc
no_star _ h = refl

pub no_plus : (kind : Option TokenKind) → ends_term kind ≡ true → is_there kind k.Plus ≡ false
no_plus (Some k.Plus) h = absurd cc
no_plus _ h = refl

pub no_minus : (kind : Option TokenKind) → ends_term kind ≡ true → is_there kind k.Minus ≡ false
no_minus (Some k.Minus) h = absurd cc
no_minus _ h = refl

pub no_and : (kind : Option TokenKind) → ends_conj kind ≡ true → is_there kind k.And ≡ false
no_and (Some k.And) h = absurd cc
no_and _ h = refl

pub no_or : (kind : Option TokenKind) → ends_disj kind ≡ true → is_there kind k.Or ≡ false
no_or (Some k.Or) h = absurd cc
no_or _ h = refl
