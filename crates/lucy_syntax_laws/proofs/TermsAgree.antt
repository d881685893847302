-- Names, numbers and terms are read alike where the words agree.
use Rattle.std.proofs.Common.{◌≡◌, ℕ, [], ◌∷◌, Option, Some, None, Ok, refl}
use Rattle.lucy_lexer.specs.declared.token.TokenKind.{TokenKind}
use Rattle.lucy_lexer.specs.declared.token.TokenKind.TheVariants as k
use Rattle.lucy_tree.specs.declared.marks.Span.{Span}
use Rattle.lucy_tree.specs.declared.terms.Factor.{Factor}
use Rattle.lucy_tree.specs.declared.terms.Product.{Product}
use Rattle.lucy_syntax.specs.Input.{eat, name, input_of}
use Rattle.lucy_syntax.specs.Terms.{names, steps, path, int, bounds, size, factor, factor_by, times, times_by, product_after, product, sign, sign_by, minus_by, added, added_of, term_after, term}
use Rattle.lucy_syntax_laws.proofs.Agreeing.{Same, any, seen, empty, single, bind, skip, gives, refuses, looks, eats, expects, names_same, numbers_same, many_same, listed_same, chain_same}

module _ (Later : ℕ → Type 0) where
  pub atoms_same : Same Later 0 empty names names
  unfolding names
  atoms_same = listed_same Later any name (names_same Later) (k.Name ∷ [])

  pub path_same : Same Later 1 single path path
  unfolding path steps
  path_same = chain_same Later any name (names_same Later) k.Dot

  pub int_same : Same Later 1 any int int
  unfolding int
  int_same = skip (eats Later k.Minus) (λ _ _ _. bind (numbers_same Later) (λ _ _ _. gives refl))

  pub bounds_same : Same Later 1 any bounds bounds
  unfolding bounds
  bounds_same = bind (expects Later k.In) (λ _ _ _. bind int_same (λ _ _ _. bind (expects Later k.DotDot) (λ _ _ _. bind int_same (λ _ _ _. gives refl))))

  size_same : Same Later 1 any size size
  unfolding size
  size_same = bind (expects Later k.Size) (λ _ _ _. bind (expects Later k.OpenParen) (λ _ _ _. bind path_same (λ _ _ _. bind (expects Later k.CloseParen) (λ _ _ _. gives refl))))

  factor_by_same : (kind : Option TokenKind) → Same Later 1 any (factor_by kind) (factor_by kind)
  factor_by_same (Some (k.Number value)) = bind (numbers_same Later) (λ _ _ _. gives refl)
  factor_by_same (Some k.Name) = bind path_same (λ _ _ _. gives refl)
  factor_by_same (Some k.Size) = size_same
  factor_by_same _ = refuses

  pub factor_same : Same Later 1 any factor factor
  unfolding factor
  factor_same = looks factor_by_same

  times_by_same : (s t : Option Span) → seen s ≡ seen t → Same Later 0 any (times_by s) (times_by t)
  times_by_same None None e = gives refl
  times_by_same None (Some t) e = absurd cc
  times_by_same (Some s) None e = absurd cc
  times_by_same (Some s) (Some t) e = skip factor_same (λ _ _ _. gives refl)

  times_same : Same Later 0 any times times
  unfolding times
  times_same = bind (eats Later k.Star) times_by_same

  pub product_after_same : (first first' : Factor) → Same Later 0 any (product_after first) (product_after first')
  unfolding product_after
  product_after_same first first' = bind times_same (λ _ _ _. gives refl)

  pub product_same : Same Later 1 any product product
  unfolding product
  product_same = bind factor_same (λ f g _. product_after_same f g)

  minus_by_same : (s t : Option Span) → seen s ≡ seen t → Same Later 0 seen (minus_by s) (minus_by t)
  minus_by_same None None e = gives refl
  minus_by_same None (Some t) e = absurd cc
  minus_by_same (Some s) None e = absurd cc
  minus_by_same (Some s) (Some t) e = gives refl

  sign_by_same : (s t : Option Span) → seen s ≡ seen t → Same Later 0 seen (sign_by s) (sign_by t)
  sign_by_same None None e = bind (eats Later k.Minus) minus_by_same
  sign_by_same None (Some t) e = absurd cc
  sign_by_same (Some s) None e = absurd cc
  sign_by_same (Some s) (Some t) e = gives refl

  sign_same : Same Later 0 seen sign sign
  unfolding sign
  sign_same = bind (eats Later k.Plus) sign_by_same

  no_sign : (end : ℕ) → sign (input_of [] end) ≡ Ok (None, input_of [] end)
  unfolding sign eat
  no_sign end = refl

  added_same : Same Later 0 empty added added
  unfolding added
  added_same = many_same Later sign added_of product any no_sign sign_same product_same

  pub term_after_same : (minus minus' : Option Span) (first first' : Product) → Same Later 0 any (term_after minus first) (term_after minus' first')
  unfolding term_after
  term_after_same minus minus' first first' = bind added_same (λ _ _ _. gives refl)

  pub term_same : Same Later 1 any term term
  unfolding term
  term_same = skip (eats Later k.Minus) (λ s t _. bind product_same (λ f g _. term_after_same s t f g))
