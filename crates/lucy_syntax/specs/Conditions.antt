-- How conditions are read.
use Rattle.std.specs.Prelude.{◌≡◌, ◌<◌, ◌-◌, ℕ, zero, suc, List, [], ◌∷◌, Option, Some, None}
use Rattle.lucy_lexer.specs.declared.token.TokenKind.{TokenKind}
use Rattle.lucy_lexer.specs.declared.token.TokenKind.TheVariants as k
use Rattle.lucy_tree.specs.declared.marks.Name.{Name}
use Rattle.lucy_tree.specs.declared.marks.Then.{Then}
use Rattle.lucy_tree.specs.declared.marks.Chain.{Chain}
use Rattle.lucy_tree.specs.declared.terms.Term.{Term}
use Rattle.lucy_tree.specs.declared.terms.Relation.{Relation}
use Rattle.lucy_tree.specs.declared.terms.Factor.TheVariants as the_factor
use Rattle.lucy_tree.specs.declared.conditions.Cond.{Cond, roll-Cond}
use Rattle.lucy_tree.specs.declared.conditions.Unary.{Unary}
use Rattle.lucy_tree.specs.declared.conditions.Unary.TheVariants as form
use Rattle.lucy_tree.specs.Spelling.{relation_kind}
use Rattle.lucy_syntax.specs.Input.{Input, Parser, ◌>>=◌, pure, refuse, look, eat, expect, opened}
use Rattle.lucy_syntax.specs.Lists.{many, then_of, chain}
use Rattle.lucy_syntax.specs.Terms.{path, product_after, term_after, term, relation_of}

-- ---- comparisons, memberships and flags

-- a comparison whose left term is read
abbrev pub compared_by : Term → Option Relation → Parser Unary
compared_by left None = refuse
compared_by left (Some r) = do
  mark ← expect (relation_kind r)
  right ← term
  pure (form.Compare left r mark right)

unfoldable pub compared : Term → Parser Unary
compared left = look >>= λ kind. compared_by left (relation_of kind)

-- term relation term
unfoldable pub comparison : Parser Unary
comparison = term >>= compared

-- a comparison whose first path is read
unfoldable pub compared_path : Chain Name → Parser Unary
compared_path p = do
  first ← product_after (the_factor.Path p)
  left ← term_after None first
  compared left

-- a membership whose path is read: it has one name. After more names `in` decides for a flag.
abbrev pub member_by : Chain Name → List (Then Name) → Parser Unary
member_by p [] = do
  word ← expect k.In
  set ← path
  pure (form.Member p.first word set)
member_by p (t ∷ ts) = pure (form.Flag p)

unfoldable pub member : Chain Name → Parser Unary
member p = member_by p p.others

-- after a path `in` decides for membership, a relation or `+ - *` for a term, anything else for a flag
abbrev pub after_path_by : Chain Name → Option TokenKind → Parser Unary
after_path_by p (Some k.In) = member p
after_path_by p (Some k.Plus) = compared_path p
after_path_by p (Some k.Minus) = compared_path p
after_path_by p (Some k.Star) = compared_path p
after_path_by p (Some k.LessEqual) = compared_path p
after_path_by p (Some k.Less) = compared_path p
after_path_by p (Some k.GreaterEqual) = compared_path p
after_path_by p (Some k.Greater) = compared_path p
after_path_by p (Some k.Equal) = compared_path p
after_path_by p (Some k.NotEqual) = compared_path p
after_path_by p _ = pure (form.Flag p)

unfoldable pub after_path : Chain Name → Parser Unary
after_path p = look >>= after_path_by p

unfoldable pub from_path : Parser Unary
from_path = path >>= after_path

-- ---- what nests. `depth` is how many more `(`, `not` and `=>` may be open; what stands inside one of them is passed in.

module _ (depth : ℕ) (inner_cond : Parser Cond) (inner_unary : Parser Unary) where
  -- "not" unary
  unfoldable pub negated : Parser Unary
  negated = do
    word ← opened depth k.Not
    inner ← inner_unary
    pure (form.Not word inner)

  -- "(" cond ")"
  unfoldable pub in_parens : Parser Unary
  in_parens = do
    open_paren ← opened depth k.OpenParen
    inner ← inner_cond
    close_paren ← expect k.CloseParen
    pure (form.Parens open_paren inner close_paren)

  -- unary = "not" unary | "true" | "false" | "(" cond ")" | name "in" path | term relation term | path
  abbrev pub unary_by : Option TokenKind → Parser Unary
  unary_by (Some k.Not) = negated
  unary_by (Some k.True) = expect k.True >>= λ s. pure (form.True s)
  unary_by (Some k.False) = expect k.False >>= λ s. pure (form.False s)
  unary_by (Some k.OpenParen) = in_parens
  unary_by (Some k.Name) = from_path
  unary_by (Some (k.Number value)) = comparison
  unary_by (Some k.Minus) = comparison
  unary_by (Some k.Size) = comparison
  unary_by _ = refuse

  unfoldable pub unary_in : Parser Unary
  unary_in = look >>= unary_by

  unfoldable pub ands : Parser (List (Then Unary))
  ands = many (eat k.And) then_of unary_in

  -- conj = unary { "and" unary }
  unfoldable pub conj_in : Parser (Chain Unary)
  conj_in = chain unary_in ands

  unfoldable pub ors : Parser (List (Then (Chain Unary)))
  ors = many (eat k.Or) then_of conj_in

  -- disj = conj { "or" conj }
  unfoldable pub disj_in : Parser (Chain (Chain Unary))
  disj_in = chain conj_in ors

  -- [ "=>" cond ]
  unfoldable pub implied : Parser (Option (Then Cond))
  implied = do
    arrow ← opened depth k.Arrow
    right ← inner_cond
    pure (Some (then_of arrow right))

  abbrev pub implied_by : Option TokenKind → Parser (Option (Then Cond))
  implied_by (Some k.Arrow) = implied
  implied_by _ = pure None

  -- cond = disj [ "=>" cond ]
  unfoldable pub cond_in : Parser Cond
  cond_in = do
    left ← disj_in
    right ← look >>= implied_by
    pure (roll-Cond (record { left = left; implied = right }))

-- what stands inside a nesting, where one of `depth` is opened
unfoldable mutual
  pub inner_cond : ℕ → Parser Cond
  inner_cond zero = refuse
  inner_cond (suc d) = cond_in d (inner_cond d) (inner_unary d)

  pub inner_unary : ℕ → Parser Unary
  inner_unary zero = refuse
  inner_unary (suc d) = unary_in d (inner_cond d) (inner_unary d)

abbrev pub cond : ℕ → Parser Cond
cond d = cond_in d (inner_cond d) (inner_unary d)

abbrev pub unary : ℕ → Parser Unary
unary d = unary_in d (inner_cond d) (inner_unary d)

-- what is read inside a nesting that may be opened
pub record Inside (d : ℕ) : Type 0 where
  pub positive : 0 < d
  pub cond : (i : Input) → inner_cond d i ≡ cond (d - 1) i
  pub unary : (i : Input) → inner_unary d i ≡ unary (d - 1) i
