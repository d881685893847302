-- How the object and its start are read.
use Rattle.std.specs.Prelude.{◌≡◌, ◌<◌, ◌-◌, ℕ, zero, suc, List, [], ◌∷◌, Option, Some}
use Rattle.lucy_lexer.specs.declared.token.TokenKind.{TokenKind}
use Rattle.lucy_lexer.specs.declared.token.TokenKind.TheVariants as k
use Rattle.lucy_tree.specs.declared.objects.Extreme.{Extreme}
use Rattle.lucy_tree.specs.declared.objects.Extreme.TheVariants as the_extreme
use Rattle.lucy_tree.specs.declared.objects.FlagKind.{FlagKind}
use Rattle.lucy_tree.specs.declared.objects.FlagKind.TheVariants as the_flag
use Rattle.lucy_tree.specs.declared.objects.Field.{Field}
use Rattle.lucy_tree.specs.declared.objects.Field.TheVariants as the_field
use Rattle.lucy_tree.specs.declared.objects.Object.{Object}
use Rattle.lucy_tree.specs.declared.objects.Value.{Value}
use Rattle.lucy_tree.specs.declared.objects.Value.TheVariants as the_value
use Rattle.lucy_tree.specs.declared.objects.Setting.{Setting}
use Rattle.lucy_tree.specs.declared.objects.Start.{Start}
use Rattle.lucy_tree.specs.Spelling.{extreme_kind, flag_kind}
use Rattle.lucy_syntax.specs.Input.{Input, Parser, ◌>>=◌, pure, refuse, look, expect, ahead, name, opened}
use Rattle.lucy_syntax.specs.Lists.{many, alone}
use Rattle.lucy_syntax.specs.Terms.{names, path, int, bounds}

-- ( "max" | "min" ) name "in" int ".." int ";"
unfoldable pub number_field : Extreme → Parser Field
number_field extreme = do
  word ← expect (extreme_kind extreme)
  named ← name
  range ← bounds
  semicolon ← expect k.Semicolon
  pure (the_field.Number extreme word named range semicolon)

-- ( "orflag" | "andflag" ) name ";"
unfoldable pub flag_field : FlagKind → Parser Field
flag_field kind = do
  word ← expect (flag_kind kind)
  named ← name
  semicolon ← expect k.Semicolon
  pure (the_field.Flag kind word named semicolon)

-- "set" name "{" { name } "}" ";"
unfoldable pub set_field : Parser Field
set_field = do
  word ← expect k.Set
  named ← name
  open_brace ← expect k.OpenBrace
  atoms ← names
  close_brace ← expect k.CloseBrace
  semicolon ← expect k.Semicolon
  pure (the_field.Set word named open_brace atoms close_brace semicolon)

-- the words that a field begins with
abbrev pub field_words : List TokenKind
field_words = k.Max ∷ k.Min ∷ k.OrFlag ∷ k.AndFlag ∷ k.Set ∷ k.Pair ∷ []

module _ (depth : ℕ) (inner_fields : Parser (List Field)) where
  -- "pair" name "{" { field } "}"
  unfoldable pub pair_field : Parser Field
  pair_field = do
    word ← opened depth k.Pair
    named ← name
    open_brace ← expect k.OpenBrace
    parts ← inner_fields
    close_brace ← expect k.CloseBrace
    pure (the_field.Pair word named open_brace parts close_brace)

  abbrev pub field_by : Option TokenKind → Parser Field
  field_by (Some k.Max) = number_field the_extreme.Max
  field_by (Some k.Min) = number_field the_extreme.Min
  field_by (Some k.OrFlag) = flag_field the_flag.Or
  field_by (Some k.AndFlag) = flag_field the_flag.And
  field_by (Some k.Set) = set_field
  field_by (Some k.Pair) = pair_field
  field_by _ = refuse

  unfoldable pub field_in : Parser Field
  field_in = look >>= field_by

  -- { field }
  unfoldable pub fields_in : Parser (List Field)
  fields_in = many (ahead field_words) alone field_in

-- the fields of a pair, where one of `depth` is opened
unfoldable pub inner_fields : ℕ → Parser (List Field)
inner_fields zero = refuse
inner_fields (suc d) = fields_in d (inner_fields d)

abbrev pub fields : ℕ → Parser (List Field)
fields d = fields_in d (inner_fields d)

abbrev pub field : ℕ → Parser Field
field d = field_in d (inner_fields d)

-- what is read inside a pair that may be opened
pub record InPair (d : ℕ) : Type 0 where
  pub positive : 0 < d
  pub fields : (i : Input) → inner_fields d i ≡ fields (d - 1) i

-- object = "object" "{" { field } "}"
unfoldable pub object : Parser Object
object = do
  word ← expect k.Object
  open_brace ← expect k.OpenBrace
  parts ← fields 64
  close_brace ← expect k.CloseBrace
  pure (record { word = word; open_brace = open_brace; fields = parts; close_brace = close_brace })

-- "{" { name } "}"
unfoldable pub members : Parser Value
members = do
  open_brace ← expect k.OpenBrace
  atoms ← names
  close_brace ← expect k.CloseBrace
  pure (the_value.Set open_brace atoms close_brace)

-- value = int | "on" | "off" | "{" { name } "}"
abbrev pub value_by : Option TokenKind → Parser Value
value_by (Some (k.Number n)) = int >>= λ i. pure (the_value.Int i)
value_by (Some k.Minus) = int >>= λ i. pure (the_value.Int i)
value_by (Some k.On) = expect k.On >>= λ s. pure (the_value.On s)
value_by (Some k.Off) = expect k.Off >>= λ s. pure (the_value.Off s)
value_by (Some k.OpenBrace) = members
value_by _ = refuse

unfoldable pub value : Parser Value
value = look >>= value_by

-- path "=" value ";"
unfoldable pub setting : Parser Setting
setting = do
  of ← path
  equal ← expect k.Equal
  given ← value
  semicolon ← expect k.Semicolon
  pure (record { path = of; equal = equal; value = given; semicolon = semicolon })

unfoldable pub settings : Parser (List Setting)
settings = many (ahead (k.Name ∷ [])) alone setting

-- start = "start" "{" { path "=" value ";" } "}"
unfoldable pub start : Parser Start
start = do
  word ← expect k.Start
  open_brace ← expect k.OpenBrace
  parts ← settings
  close_brace ← expect k.CloseBrace
  pure (record { word = word; open_brace = open_brace; settings = parts; close_brace = close_brace })
