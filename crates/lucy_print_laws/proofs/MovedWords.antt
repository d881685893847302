-- What a node spells once its places are moved: the words that it spelled, each of them moved. Lists, names and terms.
use Rattle.std.proofs.Common.{◌≡◌, List, [], ◌∷◌, ◌++◌, map, Option, Some, None, refl, sym, ap, ◌∙◌}
use Rattle.std.proofs.lemmas.List.{map-append}
use Rattle.std.specs.Prelude.{option_map}
use Rattle.lucy_lexer.specs.declared.token.TokenKind.{TokenKind}
use Rattle.lucy_lexer.specs.declared.token.TokenKind.TheVariants as k
use Rattle.lucy_tree.specs.declared.marks.Span.{Span}
use Rattle.lucy_tree.specs.declared.marks.Name.{Name}
use Rattle.lucy_tree.specs.declared.marks.Number.{Number}
use Rattle.lucy_tree.specs.declared.marks.Int.{Int}
use Rattle.lucy_tree.specs.declared.marks.Then.{Then}
use Rattle.lucy_tree.specs.declared.marks.Chain.{Chain}
use Rattle.lucy_tree.specs.declared.marks.Bounds.{Bounds}
use Rattle.lucy_tree.specs.declared.terms.Factor.{Factor}
use Rattle.lucy_tree.specs.declared.terms.Factor.TheVariants as factor
use Rattle.lucy_tree.specs.declared.terms.Product.{Product}
use Rattle.lucy_tree.specs.declared.terms.Added.{Added}
use Rattle.lucy_tree.specs.declared.terms.Term.{Term}
use Rattle.lucy_tree.specs.Words.{Words, one, maybe_one, each, then_words, chain_words, maybe}
use Rattle.lucy_tree.specs.Spelling.{name_words, path_words, number_words, int_words, bounds_words, factor_words, product_words, sign_kind, added_words, term_words}
use Rattle.lucy_print_laws.specs.Moving.{moved_word, moved_name, moved_number, moved_int, moved_then, moved_chain, moved_path, moved_bounds, moved_factor, moved_product, moved_added, moved_term}

-- the second words are the first, each of them moved
pub record Moves (to : Span → Span) (us vs : Words) : Type 0 where
  pub words : vs ≡ map (moved_word to) us

infixl 10 ◌⊕◌
pub ◌⊕◌ : {to : Span → Span} {us vs ws xs : Words} → Moves to us vs → Moves to ws xs → Moves to (us ++ ws) (vs ++ xs)
◌⊕◌ {to} {us} {vs} {ws} {xs} a b = record {
  words = ap (λ zs. zs ++ xs) a.words ∙ ap (λ zs. map (moved_word to) us ++ zs) b.words ∙ sym (map-append (moved_word to) us ws);
}

module _ (to : Span → Span) where
  pub mark : (kind : TokenKind) (s : Span) → Moves to (one kind s) (one kind (to s))
  mark kind s = record { words = refl }

  pub none : Moves to [] []
  none = record { words = refl }

  pub maybe_mark : (kind : TokenKind) (s : Option Span) → Moves to (maybe_one kind s) (maybe_one kind (option_map to s))
  maybe_mark kind None = none
  maybe_mark kind (Some s) = mark kind s

  module _ {A : Type 0} (f : A → Words) (g : A → A) (all : (x : A) → Moves to (f x) (f (g x))) where
    pub each_moves : (xs : List A) → Moves to (each f xs) (each f (map g xs))
    each_moves [] = none
    each_moves (x ∷ xs) = all x ⊕ each_moves xs

    pub maybe_moves : (x : Option A) → Moves to (maybe f x) (maybe f (option_map g x))
    maybe_moves None = none
    maybe_moves (Some x) = all x

    pub then_moves : (kind : TokenKind) (t : Then A) → Moves to (then_words kind f t) (then_words kind f (moved_then to g t))
    then_moves kind t = mark kind t.mark ⊕ all t.item

  pub chain_moves : {A : Type 0} (kind : TokenKind) (f : A → Words) (g : A → A) → ((x : A) → Moves to (f x) (f (g x))) → (c : Chain A)
      → Moves to (chain_words kind f c) (chain_words kind f (moved_chain to g c))
  chain_moves kind f g all c = all c.first ⊕ each_moves (then_words kind f) (moved_then to g) (then_moves f g all kind) c.others

  -- ---- names and numbers

  pub name_moves : (n : Name) → Moves to (name_words n) (name_words (moved_name to n))
  name_moves n = record { words = refl }

  pub path_moves : (p : Chain Name) → Moves to (path_words p) (path_words (moved_path to p))
  path_moves = chain_moves k.Dot name_words (moved_name to) name_moves

  pub number_moves : (n : Number) → Moves to (number_words n) (number_words (moved_number to n))
  number_moves n = mark (k.Number n.value) n.span

  pub int_moves : (i : Int) → Moves to (int_words i) (int_words (moved_int to i))
  int_moves i = maybe_mark k.Minus i.minus ⊕ number_moves i.number

  pub bounds_moves : (b : Bounds) → Moves to (bounds_words b) (bounds_words (moved_bounds to b))
  bounds_moves b = mark k.In b.in_word ⊕ int_moves b.low ⊕ mark k.DotDot b.dots ⊕ int_moves b.high

  -- ---- terms

  pub factor_moves : (f : Factor) → Moves to (factor_words f) (factor_words (moved_factor to f))
  factor_moves (factor.Number n) = number_moves n
  factor_moves (factor.Path p) = path_moves p
  factor_moves (factor.Size word open_paren set close_paren) = mark k.Size word ⊕ mark k.OpenParen open_paren ⊕ path_moves set ⊕ mark k.CloseParen close_paren

  pub product_moves : (p : Product) → Moves to (product_words p) (product_words (moved_product to p))
  product_moves p = factor_moves p.first ⊕ maybe_moves (then_words k.Star factor_words) (moved_then to (moved_factor to)) (then_moves factor_words (moved_factor to) factor_moves k.Star) p.second

  pub added_moves : (a : Added) → Moves to (added_words a) (added_words (moved_added to a))
  added_moves a = mark (sign_kind a.sign) a.mark ⊕ product_moves a.product

  pub term_moves : (t : Term) → Moves to (term_words t) (term_words (moved_term to t))
  term_moves t = maybe_mark k.Minus t.minus ⊕ product_moves t.first ⊕ each_moves added_words (moved_added to) added_moves t.others
