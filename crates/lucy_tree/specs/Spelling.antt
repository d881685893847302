-- The words that each node of a tree spells, rule by rule of the grammar.
use Rattle.std.specs.Prelude.{[], ◌∷◌, ◌++◌}
use Rattle.lucy_lexer.specs.declared.token.TokenKind.{TokenKind}
use Rattle.lucy_lexer.specs.declared.token.TokenKind.TheVariants as k
use Rattle.lucy_tree.specs.declared.marks.Name.{Name}
use Rattle.lucy_tree.specs.declared.marks.Number.{Number}
use Rattle.lucy_tree.specs.declared.marks.Int.{Int}
use Rattle.lucy_tree.specs.declared.marks.Chain.{Chain}
use Rattle.lucy_tree.specs.declared.marks.Bounds.{Bounds}
use Rattle.lucy_tree.specs.declared.terms.Factor.{Factor}
use Rattle.lucy_tree.specs.declared.terms.Factor.TheVariants as factor
use Rattle.lucy_tree.specs.declared.terms.Product.{Product}
use Rattle.lucy_tree.specs.declared.terms.Sign.{Sign}
use Rattle.lucy_tree.specs.declared.terms.Sign.TheVariants as sign
use Rattle.lucy_tree.specs.declared.terms.Added.{Added}
use Rattle.lucy_tree.specs.declared.terms.Term.{Term}
use Rattle.lucy_tree.specs.declared.terms.Relation.{Relation}
use Rattle.lucy_tree.specs.declared.terms.Relation.TheVariants as relation
use Rattle.lucy_tree.specs.declared.conditions.Cond.{Cond, Cond-F, fold-Cond}
use Rattle.lucy_tree.specs.declared.conditions.Unary.{Unary, fold-Unary}
use Rattle.lucy_tree.specs.declared.conditions.Unary.TheOpen.{Unary-F}
use Rattle.lucy_tree.specs.declared.objects.Extreme.{Extreme}
use Rattle.lucy_tree.specs.declared.objects.Extreme.TheVariants as extreme
use Rattle.lucy_tree.specs.declared.objects.FlagKind.{FlagKind}
use Rattle.lucy_tree.specs.declared.objects.FlagKind.TheVariants as flag
use Rattle.lucy_tree.specs.declared.objects.Field.{Field}
use Rattle.lucy_tree.specs.declared.objects.Field.TheOpen.{Field-F}
use Rattle.lucy_tree.specs.declared.objects.Field.TheFolds.{fold-Field}
use Rattle.lucy_tree.specs.declared.objects.Object.{Object}
use Rattle.lucy_tree.specs.declared.objects.Value.{Value}
use Rattle.lucy_tree.specs.declared.objects.Value.TheVariants as value
use Rattle.lucy_tree.specs.declared.objects.Setting.{Setting}
use Rattle.lucy_tree.specs.declared.objects.Start.{Start}
use Rattle.lucy_tree.specs.declared.plans.Invariant.{Invariant}
use Rattle.lucy_tree.specs.declared.plans.Param.{Param}
use Rattle.lucy_tree.specs.declared.plans.Assigned.{Assigned}
use Rattle.lucy_tree.specs.declared.plans.Assigned.TheVariants as assigned
use Rattle.lucy_tree.specs.declared.plans.Change.{Change}
use Rattle.lucy_tree.specs.declared.plans.Change.TheVariants as change
use Rattle.lucy_tree.specs.declared.plans.Branch.{Branch}
use Rattle.lucy_tree.specs.declared.plans.Txn.{Txn}
use Rattle.lucy_tree.specs.declared.plans.Point.{Point}
use Rattle.lucy_tree.specs.declared.plans.Except.{Except}
use Rattle.lucy_tree.specs.declared.plans.Segment.{Segment}
use Rattle.lucy_tree.specs.declared.plans.Depth.{Depth}
use Rattle.lucy_tree.specs.declared.plans.Tree.{Tree}
use Rattle.lucy_tree.specs.Words.{Words, called, one, maybe_one, each, then_words, chain_words, maybe}

-- ---- names and numbers

abbrev pub name_words : Name → Words
name_words n = called n.text n.span ∷ []

abbrev pub path_words : Chain Name → Words
path_words = chain_words k.Dot name_words

abbrev pub number_words : Number → Words
number_words n = one (k.Number n.value) n.span

-- int = [ "-" ] number
abbrev pub int_words : Int → Words
int_words i = maybe_one k.Minus i.minus ++ number_words i.number

-- "in" int ".." int
abbrev pub bounds_words : Bounds → Words
bounds_words b = one k.In b.in_word ++ int_words b.low ++ one k.DotDot b.dots ++ int_words b.high

-- ---- terms

-- factor = number | path | "size" "(" path ")"
abbrev pub factor_words : Factor → Words
factor_words (factor.Number n) = number_words n
factor_words (factor.Path p) = path_words p
factor_words (factor.Size word open_paren set close_paren) = one k.Size word ++ one k.OpenParen open_paren ++ path_words set ++ one k.CloseParen close_paren

-- product = factor [ "*" factor ]
abbrev pub product_words : Product → Words
product_words p = factor_words p.first ++ maybe (then_words k.Star factor_words) p.second

abbrev pub sign_kind : Sign → TokenKind
sign_kind sign.Plus = k.Plus
sign_kind sign.Minus = k.Minus

abbrev pub added_words : Added → Words
added_words a = one (sign_kind a.sign) a.mark ++ product_words a.product

-- term = [ "-" ] product { ( "+" | "-" ) product }
abbrev pub term_words : Term → Words
term_words t = maybe_one k.Minus t.minus ++ product_words t.first ++ each added_words t.others

abbrev pub relation_kind : Relation → TokenKind
relation_kind relation.LessEqual = k.LessEqual
relation_kind relation.Less = k.Less
relation_kind relation.GreaterEqual = k.GreaterEqual
relation_kind relation.Greater = k.Greater
relation_kind relation.Equal = k.Equal
relation_kind relation.NotEqual = k.NotEqual

-- ---- conditions

-- unary = "not" unary | "true" | "false" | "(" cond ")" | name "in" path | term relation term | path
abbrev pub unary_step : Unary-F Words Words → Words
unary_step (Unary-F.Not word inner) = one k.Not word ++ inner
unary_step (Unary-F.True word) = one k.True word
unary_step (Unary-F.False word) = one k.False word
unary_step (Unary-F.Parens open_paren inner close_paren) = one k.OpenParen open_paren ++ inner ++ one k.CloseParen close_paren
unary_step (Unary-F.Member atom word set) = name_words atom ++ one k.In word ++ path_words set
unary_step (Unary-F.Compare left rel mark right) = term_words left ++ one (relation_kind rel) mark ++ term_words right
unary_step (Unary-F.Flag path) = path_words path

-- cond = disj [ "=>" cond ]; disj = conj { "or" conj }; conj = unary { "and" unary }
abbrev pub cond_step : Cond-F Words Words → Words
cond_step c = chain_words k.Or (chain_words k.And (λ ws. ws)) c.left ++ maybe (then_words k.Arrow (λ ws. ws)) c.implied

abbrev pub unary_words : Unary → Words
unary_words = fold-Unary Words Words unary_step cond_step

abbrev pub cond_words : Cond → Words
cond_words = fold-Cond Words Words unary_step cond_step

-- ---- the object and its start

abbrev pub extreme_kind : Extreme → TokenKind
extreme_kind extreme.Max = k.Max
extreme_kind extreme.Min = k.Min

abbrev pub flag_kind : FlagKind → TokenKind
flag_kind flag.Or = k.OrFlag
flag_kind flag.And = k.AndFlag

-- "{" { name } "}", and likewise with other items
abbrev pub field_step : Field-F Words → Words
field_step (Field-F.Number ex word name bounds semicolon) = one (extreme_kind ex) word ++ name_words name ++ bounds_words bounds ++ one k.Semicolon semicolon
field_step (Field-F.Flag fl word name semicolon) = one (flag_kind fl) word ++ name_words name ++ one k.Semicolon semicolon
field_step (Field-F.Set word name open_brace atoms close_brace semicolon) =
    one k.Set word ++ name_words name ++ one k.OpenBrace open_brace ++ each name_words atoms ++ one k.CloseBrace close_brace ++ one k.Semicolon semicolon
field_step (Field-F.Pair word name open_brace fields close_brace) =
    one k.Pair word ++ name_words name ++ one k.OpenBrace open_brace ++ each (λ ws. ws) fields ++ one k.CloseBrace close_brace

abbrev pub field_words : Field → Words
field_words = fold-Field Words field_step

-- object = "object" "{" { field } "}"
abbrev pub object_words : Object → Words
object_words o = one k.Object o.word ++ one k.OpenBrace o.open_brace ++ each field_words o.fields ++ one k.CloseBrace o.close_brace

-- value = int | "on" | "off" | "{" { name } "}"
abbrev pub value_words : Value → Words
value_words (value.Int i) = int_words i
value_words (value.On word) = one k.On word
value_words (value.Off word) = one k.Off word
value_words (value.Set open_brace atoms close_brace) = one k.OpenBrace open_brace ++ each name_words atoms ++ one k.CloseBrace close_brace

abbrev pub setting_words : Setting → Words
setting_words s = path_words s.path ++ one k.Equal s.equal ++ value_words s.value ++ one k.Semicolon s.semicolon

-- start = "start" "{" { path "=" value ";" } "}"
abbrev pub start_words : Start → Words
start_words s = one k.Start s.word ++ one k.OpenBrace s.open_brace ++ each setting_words s.settings ++ one k.CloseBrace s.close_brace

-- ---- the plan

-- invariant = "invariant" cond ";"
abbrev pub invariant_words : Invariant → Words
invariant_words i = one k.Invariant i.word ++ cond_words i.cond ++ one k.Semicolon i.semicolon

-- param = name "in" int ".." int
abbrev pub param_words : Param → Words
param_words p = name_words p.name ++ bounds_words p.bounds

abbrev pub assigned_words : Assigned → Words
assigned_words (assigned.Term t) = term_words t
assigned_words (assigned.On word) = one k.On word
assigned_words (assigned.Off word) = one k.Off word

-- change = path ":=" ( term | "on" | "off" ) ";" | "insert" name "into" path ";"
abbrev pub change_words : Change → Words
change_words (change.Assign path mark value semicolon) = path_words path ++ one k.Assign mark ++ assigned_words value ++ one k.Semicolon semicolon
change_words (change.Insert word atom into_word set semicolon) =
    one k.Insert word ++ name_words atom ++ one k.Into into_word ++ path_words set ++ one k.Semicolon semicolon

-- branch = "when" cond "{" { change } "}"
abbrev pub branch_words : Branch → Words
branch_words b =
    one k.When b.word ++ cond_words b.cond ++ one k.OpenBrace b.open_brace ++ each change_words b.changes ++ one k.CloseBrace b.close_brace

-- txn = "txn" name "(" [ param { "," param } ] ")" "{" { branch } "}"
abbrev pub txn_words : Txn → Words
txn_words t =
    one k.Txn t.word ++ name_words t.name ++ one k.OpenParen t.open_paren ++ maybe (chain_words k.Comma param_words) t.params ++ one k.CloseParen t.close_paren
    ++ one k.OpenBrace t.open_brace ++ each branch_words t.branches ++ one k.CloseBrace t.close_brace

-- point = "(" int { "," int } ")"
abbrev pub point_words : Point → Words
point_words p = one k.OpenParen p.open_paren ++ chain_words k.Comma int_words p.numbers ++ one k.CloseParen p.close_paren

-- "except" point { point }
abbrev pub except_words : Except → Words
except_words e = one k.Except e.word ++ point_words e.first ++ each point_words e.others

-- segment = "segment" name "when" cond [ "except" point { point } ] "do" { name } ";"
abbrev pub segment_words : Segment → Words
segment_words s =
    one k.Segment s.word ++ name_words s.name ++ one k.When s.when_word ++ cond_words s.cond ++ maybe except_words s.except
    ++ one k.Do s.do_word ++ each name_words s.txns ++ one k.Semicolon s.semicolon

abbrev pub depth_words : Depth → Words
depth_words d = one k.Depth d.word ++ number_words d.number ++ one k.Semicolon d.semicolon

-- plan = "lucy" number object start invariant { txn } { segment } [ "depth" number ";" ] "end"
abbrev pub spelling : Tree → Words
spelling t =
    one k.Lucy t.word ++ number_words t.version ++ object_words t.object ++ start_words t.start ++ invariant_words t.invariant
    ++ each txn_words t.txns ++ each segment_words t.segments ++ maybe depth_words t.depth ++ one k.End t.end_word
