-- Kinds of tokens, and how each is written.
use Rattle.std.specs.Prelude.{ℕ, Bool, List, [], codes}
use Rattle.lucy_lexer.specs.declared.token.TokenKind.{TokenKind}
use Rattle.lucy_lexer.specs.declared.token.TokenKind.TheVariants as k
use Rattle.lucy_lexer.specs.contracts.token.TokenKindPartialEq.TheImpl.{ghosts}

-- whether two kinds are the same
abbrev pub is_kind : TokenKind → TokenKind → Bool
is_kind a b = ghosts.eq a b

-- the text of a sign or of a reserved word; a name and a number have none of their own
abbrev pub written : TokenKind → List ℕ
written k.Name = []
written (k.Number n) = []
written k.OpenBrace = codes "{"
written k.CloseBrace = codes "}"
written k.OpenParen = codes "("
written k.CloseParen = codes ")"
written k.Semicolon = codes ";"
written k.Comma = codes ","
written k.Dot = codes "."
written k.DotDot = codes ".."
written k.Equal = codes "="
written k.Assign = codes ":="
written k.NotEqual = codes "!="
written k.LessEqual = codes "<="
written k.Less = codes "<"
written k.GreaterEqual = codes ">="
written k.Greater = codes ">"
written k.Arrow = codes "=>"
written k.Plus = codes "+"
written k.Minus = codes "-"
written k.Star = codes "*"
written k.Lucy = codes "lucy"
written k.Object = codes "object"
written k.Max = codes "max"
written k.Min = codes "min"
written k.OrFlag = codes "orflag"
written k.AndFlag = codes "andflag"
written k.Set = codes "set"
written k.Pair = codes "pair"
written k.Start = codes "start"
written k.Invariant = codes "invariant"
written k.Txn = codes "txn"
written k.When = codes "when"
written k.Segment = codes "segment"
written k.Except = codes "except"
written k.Do = codes "do"
written k.Depth = codes "depth"
written k.End = codes "end"
written k.In = codes "in"
written k.Not = codes "not"
written k.And = codes "and"
written k.Or = codes "or"
written k.True = codes "true"
written k.False = codes "false"
written k.On = codes "on"
written k.Off = codes "off"
written k.Size = codes "size"
written k.Insert = codes "insert"
written k.Into = codes "into"
