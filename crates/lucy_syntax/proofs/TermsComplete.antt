-- Names, numbers and terms: what was read before the reading stops goes on.
use Rattle.std.proofs.Common.{[], ◌∷◌, ◌++◌, Option, Some, None, refl, append_assoc}
use Rattle.lucy_lexer.specs.declared.token.TokenKind.{TokenKind}
use Rattle.lucy_lexer.specs.declared.token.TokenKind.TheVariants as k
use Rattle.lucy_lexer.specs.Laws.{EqualKinds}
use Rattle.lucy_tree.specs.declared.marks.Span.{Span}
use Rattle.lucy_tree.specs.declared.terms.Factor.{Factor}
use Rattle.lucy_tree.specs.declared.terms.Factor.TheVariants as the_factor
use Rattle.lucy_tree.specs.declared.terms.Product.{Product}
use Rattle.lucy_tree.specs.declared.terms.Sign.{Sign}
use Rattle.lucy_tree.specs.declared.terms.Sign.TheVariants as the_sign
use Rattle.lucy_tree.specs.Words.{Words, one, maybe_one, each, maybe, then_words}
use Rattle.lucy_tree.specs.Spelling.{name_words, number_words, path_words, int_words, bounds_words, factor_words, product_words, sign_kind, added_words, term_words}
use Rattle.lucy_syntax.specs.Input.{name}
use Rattle.lucy_syntax.specs.Lists.{then_of}
use Rattle.lucy_syntax.specs.Terms.{names, steps, path, int, bounds, size, factor, factor_by, times, times_by, product_after, product, sign, sign_by, minus_by, added, added_of, term_after, term}
use Rattle.lucy_syntax.proofs.Taking.{Any}
use Rattle.lucy_syntax.proofs.Writable.{some_number, some_number_proper}
use Rattle.lucy_syntax.proofs.Completing.{Goes, Completes, gives, refuses, bind, looks, last, any_item, eat_completes, expect_completes, name_completes, number_completes, many_completes, listed_completes, chain_completes}

factor_goes : Goes [] factor_words Any
factor_goes = record { value = the_factor.Number some_number; more = number_words some_number; spelled = refl; proper = (some_number_proper, tt); kept = tt }

pub names_complete : Completes [] (each name_words) Any names
unfolding names
names_complete = any_item (listed_completes (k.Name ∷ []) name_words Any name name_completes)

module _ (equal : EqualKinds) where
  pub path_completes : Completes [] path_words Any path
  unfolding path steps
  path_completes = any_item (chain_completes equal k.Dot refl name_words Any name name_completes)

  pub int_completes : Completes [] int_words Any int
  unfolding int
  int_completes = bind (eat_completes equal k.Minus refl) (λ minus _. bind number_completes (λ n _. gives (record { minus = minus; number = n }) refl tt))

  pub bounds_complete : Completes [] bounds_words Any bounds
  unfolding bounds
  bounds_complete =
      bind (expect_completes equal k.In refl) (λ in_word _. bind int_completes (λ low _. bind (expect_completes equal k.DotDot refl) (λ dots _. bind int_completes (λ high _.
      gives (record { in_word = in_word; low = low; dots = dots; high = high }) (simp append_assoc) tt))))

  size_completes : Completes [] factor_words Any size
  unfolding size
  size_completes =
      bind (expect_completes equal k.Size refl) (λ word _. bind (expect_completes equal k.OpenParen refl) (λ open_paren _. bind path_completes (λ set _.
      bind (expect_completes equal k.CloseParen refl) (λ close_paren _. gives (the_factor.Size word open_paren set close_paren) (simp append_assoc) tt))))

  factor_by_completes : (kind : Option TokenKind) → Completes [] factor_words Any (factor_by kind)
  factor_by_completes (Some (k.Number value)) = last (λ n. the_factor.Number n) number_completes (λ n. refl) (λ n _. tt)
  factor_by_completes (Some k.Name) = last (λ p. the_factor.Path p) path_completes (λ p. refl) (λ p _. tt)
  factor_by_completes (Some k.Size) = size_completes
  factor_by_completes _ = refuses factor_goes

  pub factor_completes : Completes [] factor_words Any factor
  unfolding factor
  factor_completes = looks factor_by_completes

  times_by_completes : (s : Option Span) → Completes (maybe_one k.Star s) (maybe (then_words k.Star factor_words)) Any (times_by s)
  times_by_completes None = gives None refl tt
  times_by_completes (Some s) = last (λ f. Some (then_of s f)) factor_completes (λ f. refl) (λ f _. tt)

  times_complete : Completes [] (maybe (then_words k.Star factor_words)) Any times
  unfolding times
  times_complete = bind (eat_completes equal k.Star refl) (λ s _. times_by_completes s)

  pub product_after_completes : (first : Factor) → Completes (factor_words first) product_words Any (product_after first)
  unfolding product_after
  product_after_completes first = last (λ second. record { first = first; second = second }) times_complete (λ second. refl) (λ _ _. tt)

  product_completes : Completes [] product_words Any product
  unfolding product
  product_completes = bind factor_completes (λ first _. product_after_completes first)

  abbrev sign_words : Sign × Span → Words
  sign_words s = one (sign_kind s.0) s.1

  minus_by_completes : (s : Option Span) → Completes (maybe_one k.Minus s) (maybe sign_words) Any (minus_by s)
  minus_by_completes None = gives None refl tt
  minus_by_completes (Some s) = gives (Some (the_sign.Minus, s)) refl tt

  sign_by_completes : (s : Option Span) → Completes (maybe_one k.Plus s) (maybe sign_words) Any (sign_by s)
  sign_by_completes None = bind (eat_completes equal k.Minus refl) (λ s _. minus_by_completes s)
  sign_by_completes (Some s) = gives (Some (the_sign.Plus, s)) refl tt

  sign_completes : Completes [] (maybe sign_words) Any sign
  unfolding sign
  sign_completes = bind (eat_completes equal k.Plus refl) (λ s _. sign_by_completes s)

  added_complete : Completes [] (each added_words) Any added
  unfolding added
  added_complete = any_item (many_completes sign added_of product sign_words product_words Any added_words Any sign_completes product_completes (λ s x. refl) (λ s x _. tt))

  pub term_after_completes : (minus : Option Span) (first : Product) → Completes (maybe_one k.Minus minus ++ product_words first) term_words Any (term_after minus first)
  unfolding term_after
  term_after_completes minus first = last (λ others. record { minus = minus; first = first; others = others }) added_complete (λ others. refl) (λ _ _. tt)

  pub term_completes : Completes [] term_words Any term
  unfolding term
  term_completes = bind (eat_completes equal k.Minus refl) (λ minus _. bind product_completes (λ first _. term_after_completes minus first))
