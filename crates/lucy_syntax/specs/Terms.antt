-- How names, numbers and terms are read.
use Rattle.std.specs.Prelude.{List, [], ◌∷◌, Option, Some, None}
use Rattle.lucy_lexer.specs.declared.token.TokenKind.{TokenKind}
use Rattle.lucy_lexer.specs.declared.token.TokenKind.TheVariants as k
use Rattle.lucy_tree.specs.declared.marks.Span.{Span}
use Rattle.lucy_tree.specs.declared.marks.Name.{Name}
use Rattle.lucy_tree.specs.declared.marks.Int.{Int}
use Rattle.lucy_tree.specs.declared.marks.Then.{Then}
use Rattle.lucy_tree.specs.declared.marks.Chain.{Chain}
use Rattle.lucy_tree.specs.declared.marks.Bounds.{Bounds}
use Rattle.lucy_tree.specs.declared.terms.Factor.{Factor}
use Rattle.lucy_tree.specs.declared.terms.Factor.TheVariants as the_factor
use Rattle.lucy_tree.specs.declared.terms.Product.{Product}
use Rattle.lucy_tree.specs.declared.terms.Sign.{Sign}
use Rattle.lucy_tree.specs.declared.terms.Sign.TheVariants as the_sign
use Rattle.lucy_tree.specs.declared.terms.Added.{Added}
use Rattle.lucy_tree.specs.declared.terms.Term.{Term}
use Rattle.lucy_tree.specs.declared.terms.Relation.{Relation}
use Rattle.lucy_tree.specs.declared.terms.Relation.TheVariants as the_relation
use Rattle.lucy_syntax.specs.Input.{Parser, ◌>>=◌, pure, refuse, look, eat, expect, ahead, name, number}
use Rattle.lucy_syntax.specs.Lists.{many, then_of, alone, chain}

-- { name }
unfoldable pub names : Parser (List Name)
names = many (ahead (k.Name ∷ [])) alone name

unfoldable pub steps : Parser (List (Then Name))
steps = many (eat k.Dot) then_of name

-- path = name { "." name }
unfoldable pub path : Parser (Chain Name)
path = chain name steps

-- int = [ "-" ] number
unfoldable pub int : Parser Int
int = do
  minus ← eat k.Minus
  value ← number
  pure (record { minus = minus; number = value })

-- "in" int ".." int
unfoldable pub bounds : Parser Bounds
bounds = do
  in_word ← expect k.In
  low ← int
  dots ← expect k.DotDot
  high ← int
  pure (record { in_word = in_word; low = low; dots = dots; high = high })

-- "size" "(" path ")"
unfoldable pub size : Parser Factor
size = do
  word ← expect k.Size
  open_paren ← expect k.OpenParen
  set ← path
  close_paren ← expect k.CloseParen
  pure (the_factor.Size word open_paren set close_paren)

-- factor = number | path | "size" "(" path ")"
abbrev pub factor_by : Option TokenKind → Parser Factor
factor_by (Some (k.Number value)) = number >>= λ n. pure (the_factor.Number n)
factor_by (Some k.Name) = path >>= λ p. pure (the_factor.Path p)
factor_by (Some k.Size) = size
factor_by _ = refuse

unfoldable pub factor : Parser Factor
factor = look >>= factor_by

-- [ "*" factor ]
abbrev pub times_by : Option Span → Parser (Option (Then Factor))
times_by None = pure None
times_by (Some s) = factor >>= λ f. pure (Some (then_of s f))

unfoldable pub times : Parser (Option (Then Factor))
times = eat k.Star >>= times_by

-- a product whose first factor is read
unfoldable pub product_after : Factor → Parser Product
product_after first = do
  second ← times
  pure (record { first = first; second = second })

-- product = factor [ "*" factor ]
unfoldable pub product : Parser Product
product = factor >>= product_after

-- "+" | "-"
abbrev pub minus_by : Option Span → Parser (Option (Sign × Span))
minus_by (Some s) = pure (Some (the_sign.Minus, s))
minus_by None = pure None

abbrev pub sign_by : Option Span → Parser (Option (Sign × Span))
sign_by (Some s) = pure (Some (the_sign.Plus, s))
sign_by None = eat k.Minus >>= minus_by

unfoldable pub sign : Parser (Option (Sign × Span))
sign = eat k.Plus >>= sign_by

abbrev pub added_of : Sign × Span → Product → Added
added_of s p = record { sign = s.0; mark = s.1; product = p }

-- { ( "+" | "-" ) product }
unfoldable pub added : Parser (List Added)
added = many sign added_of product

-- a term whose first product is read
unfoldable pub term_after : Option Span → Product → Parser Term
term_after minus first = do
  others ← added
  pure (record { minus = minus; first = first; others = others })

-- term = [ "-" ] product { ( "+" | "-" ) product }
unfoldable pub term : Parser Term
term = do
  minus ← eat k.Minus
  first ← product
  term_after minus first

abbrev pub relation_of : Option TokenKind → Option Relation
relation_of (Some k.LessEqual) = Some the_relation.LessEqual
relation_of (Some k.Less) = Some the_relation.Less
relation_of (Some k.GreaterEqual) = Some the_relation.GreaterEqual
relation_of (Some k.Greater) = Some the_relation.Greater
relation_of (Some k.Equal) = Some the_relation.Equal
relation_of (Some k.NotEqual) = Some the_relation.NotEqual
relation_of _ = None
