-- How transactions, segments and the whole plan are read.
use Rattle.std.specs.Prelude.{List, [], ◌∷◌, Option, Some, None}
use Rattle.lucy_lexer.specs.declared.token.TokenKind.{TokenKind}
use Rattle.lucy_lexer.specs.declared.token.TokenKind.TheVariants as k
use Rattle.lucy_tree.specs.declared.marks.Int.{Int}
use Rattle.lucy_tree.specs.declared.marks.Then.{Then}
use Rattle.lucy_tree.specs.declared.marks.Chain.{Chain}
use Rattle.lucy_tree.specs.declared.plans.Invariant.{Invariant}
use Rattle.lucy_tree.specs.declared.plans.Param.{Param}
use Rattle.lucy_tree.specs.declared.plans.Assigned.{Assigned}
use Rattle.lucy_tree.specs.declared.plans.Assigned.TheVariants as the_assigned
use Rattle.lucy_tree.specs.declared.plans.Change.{Change}
use Rattle.lucy_tree.specs.declared.plans.Change.TheVariants as the_change
use Rattle.lucy_tree.specs.declared.plans.Branch.{Branch}
use Rattle.lucy_tree.specs.declared.plans.Txn.{Txn}
use Rattle.lucy_tree.specs.declared.plans.Point.{Point}
use Rattle.lucy_tree.specs.declared.plans.Except.{Except}
use Rattle.lucy_tree.specs.declared.plans.Segment.{Segment}
use Rattle.lucy_tree.specs.declared.plans.Depth.{Depth}
use Rattle.lucy_tree.specs.declared.plans.Tree.{Tree}
use Rattle.lucy_syntax.specs.declared.plans.BranchEnd.{BranchEnd}
use Rattle.lucy_syntax.specs.declared.plans.TxnParams.{TxnParams}
use Rattle.lucy_syntax.specs.declared.plans.TxnEnd.{TxnEnd}
use Rattle.lucy_syntax.specs.declared.plans.SegmentEnd.{SegmentEnd}
use Rattle.lucy_syntax.specs.declared.plans.PlanHead.{PlanHead}
use Rattle.lucy_syntax.specs.declared.plans.PlanEnd.{PlanEnd}
use Rattle.lucy_syntax.specs.Input.{Parser, ◌>>=◌, pure, look, eat, expect, ahead, name, number}
use Rattle.lucy_syntax.specs.Lists.{many, then_of, alone, chain}
use Rattle.lucy_syntax.specs.Terms.{names, path, int, bounds, term}
use Rattle.lucy_syntax.specs.Conditions.{cond}
use Rattle.lucy_syntax.specs.Objects.{object, start}

-- invariant = "invariant" cond ";"
unfoldable pub invariant : Parser Invariant
invariant = do
  word ← expect k.Invariant
  condition ← cond 64
  semicolon ← expect k.Semicolon
  pure (record { word = word; cond = condition; semicolon = semicolon })

-- ---- transactions

-- param = name "in" int ".." int
unfoldable pub param : Parser Param
param = do
  named ← name
  range ← bounds
  pure (record { name = named; bounds = range })

unfoldable pub more_params : Parser (List (Then Param))
more_params = many (eat k.Comma) then_of param

-- [ param { "," param } ]
abbrev pub params_by : Option TokenKind → Parser (Option (Chain Param))
params_by (Some k.Name) = chain param more_params >>= λ c. pure (Some c)
params_by _ = pure None

unfoldable pub params : Parser (Option (Chain Param))
params = look >>= params_by

-- term | "on" | "off"
abbrev pub assigned_by : Option TokenKind → Parser Assigned
assigned_by (Some k.On) = expect k.On >>= λ s. pure (the_assigned.On s)
assigned_by (Some k.Off) = expect k.Off >>= λ s. pure (the_assigned.Off s)
assigned_by _ = term >>= λ t. pure (the_assigned.Term t)

unfoldable pub assigned : Parser Assigned
assigned = look >>= assigned_by

-- path ":=" ( term | "on" | "off" ) ";"
unfoldable pub assign : Parser Change
assign = do
  of ← path
  mark ← expect k.Assign
  given ← assigned
  semicolon ← expect k.Semicolon
  pure (the_change.Assign of mark given semicolon)

-- "insert" name "into" path ";"
unfoldable pub insert : Parser Change
insert = do
  word ← expect k.Insert
  atom ← name
  into_word ← expect k.Into
  set ← path
  semicolon ← expect k.Semicolon
  pure (the_change.Insert word atom into_word set semicolon)

abbrev pub change_by : Option TokenKind → Parser Change
change_by (Some k.Insert) = insert
change_by _ = assign

unfoldable pub change : Parser Change
change = look >>= change_by

unfoldable pub changes : Parser (List Change)
changes = many (ahead (k.Name ∷ k.Insert ∷ [])) alone change

-- "{" { change } "}"
unfoldable pub block : Parser BranchEnd
block = do
  open_brace ← expect k.OpenBrace
  parts ← changes
  close_brace ← expect k.CloseBrace
  pure (record { open_brace = open_brace; changes = parts; close_brace = close_brace })

-- branch = "when" cond "{" { change } "}"
unfoldable pub branch : Parser Branch
branch = do
  word ← expect k.When
  condition ← cond 64
  inner ← block
  pure (record { word = word; cond = condition; open_brace = inner.open_brace; changes = inner.changes; close_brace = inner.close_brace })

unfoldable pub branches : Parser (List Branch)
branches = many (ahead (k.When ∷ [])) alone branch

-- "(" [ param { "," param } ] ")"
unfoldable pub signature : Parser TxnParams
signature = do
  open_paren ← expect k.OpenParen
  given ← params
  close_paren ← expect k.CloseParen
  pure (record { open_paren = open_paren; params = given; close_paren = close_paren })

-- "{" { branch } "}"
unfoldable pub body : Parser TxnEnd
body = do
  open_brace ← expect k.OpenBrace
  parts ← branches
  close_brace ← expect k.CloseBrace
  pure (record { open_brace = open_brace; branches = parts; close_brace = close_brace })

-- txn = "txn" name "(" [ param { "," param } ] ")" "{" { branch } "}"
unfoldable pub txn : Parser Txn
txn = do
  word ← expect k.Txn
  named ← name
  given ← signature
  inner ← body
  pure (record { word = word; name = named; open_paren = given.open_paren; params = given.params; close_paren = given.close_paren; open_brace = inner.open_brace; branches = inner.branches; close_brace = inner.close_brace })

unfoldable pub txns : Parser (List Txn)
txns = many (ahead (k.Txn ∷ [])) alone txn

-- ---- segments

unfoldable pub more_numbers : Parser (List (Then Int))
more_numbers = many (eat k.Comma) then_of int

-- point = "(" int { "," int } ")"
unfoldable pub point : Parser Point
point = do
  open_paren ← expect k.OpenParen
  numbers ← chain int more_numbers
  close_paren ← expect k.CloseParen
  pure (record { open_paren = open_paren; numbers = numbers; close_paren = close_paren })

unfoldable pub points : Parser (List Point)
points = many (ahead (k.OpenParen ∷ [])) alone point

-- "except" point { point }
unfoldable pub excepted : Parser (Option Except)
excepted = do
  word ← expect k.Except
  first ← point
  others ← points
  pure (Some (record { word = word; first = first; others = others }))

abbrev pub except_by : Option TokenKind → Parser (Option Except)
except_by (Some k.Except) = excepted
except_by _ = pure None

unfoldable pub except : Parser (Option Except)
except = look >>= except_by

-- [ "except" point { point } ] "do" { name } ";"
unfoldable pub listed : Parser SegmentEnd
listed = do
  excluded ← except
  do_word ← expect k.Do
  calls ← names
  semicolon ← expect k.Semicolon
  pure (record { except = excluded; do_word = do_word; txns = calls; semicolon = semicolon })

-- segment = "segment" name "when" cond [ "except" point { point } ] "do" { name } ";"
unfoldable pub segment : Parser Segment
segment = do
  word ← expect k.Segment
  named ← name
  when_word ← expect k.When
  condition ← cond 64
  calls ← listed
  pure (record { word = word; name = named; when_word = when_word; cond = condition; except = calls.except; do_word = calls.do_word; txns = calls.txns; semicolon = calls.semicolon })

unfoldable pub segments : Parser (List Segment)
segments = many (ahead (k.Segment ∷ [])) alone segment

-- ---- the plan

-- [ "depth" number ";" ]
unfoldable pub stated_depth : Parser (Option Depth)
stated_depth = do
  word ← expect k.Depth
  value ← number
  semicolon ← expect k.Semicolon
  pure (Some (record { word = word; number = value; semicolon = semicolon }))

abbrev pub depth_by : Option TokenKind → Parser (Option Depth)
depth_by (Some k.Depth) = stated_depth
depth_by _ = pure None

unfoldable pub depth : Parser (Option Depth)
depth = look >>= depth_by

-- { txn } { segment } [ "depth" number ";" ] "end"
unfoldable pub parts : Parser PlanEnd
parts = do
  calls ← txns
  rooms ← segments
  limit ← depth
  end_word ← expect k.End
  pure (record { txns = calls; segments = rooms; depth = limit; end_word = end_word })

-- object start invariant
unfoldable pub head : Parser PlanHead
head = do
  declared ← object
  started ← start
  kept ← invariant
  pure (record { object = declared; start = started; invariant = kept })

-- plan = "lucy" number object start invariant { txn } { segment } [ "depth" number ";" ] "end"
unfoldable pub plan : Parser Tree
plan = do
  word ← expect k.Lucy
  version ← number
  first ← head
  others ← parts
  pure (record { word = word; version = version; object = first.object; start = first.start; invariant = first.invariant; txns = others.txns; segments = others.segments; depth = others.depth; end_word = others.end_word })
