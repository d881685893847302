-- How many `(`, `not`, `=>` and `pair` are open at once, at the most. The grammar allows 64.
use Rattle.std.specs.Prelude.{ℕ, suc, max, List, [], ◌∷◌, Option, Some, None}
use Rattle.lucy_tree.specs.declared.marks.Then.{Then}
use Rattle.lucy_tree.specs.declared.marks.Chain.{Chain}
use Rattle.lucy_tree.specs.declared.conditions.Cond.{Cond, Cond-F, fold-Cond}
use Rattle.lucy_tree.specs.declared.conditions.Unary.{Unary, fold-Unary}
use Rattle.lucy_tree.specs.declared.conditions.Unary.TheOpen.{Unary-F}
use Rattle.lucy_tree.specs.declared.objects.Field.{Field}
use Rattle.lucy_tree.specs.declared.objects.Field.TheOpen.{Field-F}
use Rattle.lucy_tree.specs.declared.objects.Field.TheFolds.{fold-Field}
use Rattle.lucy_tree.specs.declared.plans.Branch.{Branch}
use Rattle.lucy_tree.specs.declared.plans.Txn.{Txn}
use Rattle.lucy_tree.specs.declared.plans.Segment.{Segment}
use Rattle.lucy_tree.specs.declared.plans.Tree.{Tree}

-- the most of all items
abbrev pub most : {A : Type 0} → (A → ℕ) → List A → ℕ
most f [] = 0
most f (x ∷ xs) = max (f x) (most f xs)

abbrev pub then_nesting : {A : Type 0} → (A → ℕ) → Then A → ℕ
then_nesting f t = f t.item

abbrev pub chain_nesting : {A : Type 0} → (A → ℕ) → Chain A → ℕ
chain_nesting f c = max (f c.first) (most (then_nesting f) c.others)

-- a `not` is open until its part ends, a `(` until its `)`
abbrev pub unary_nest_step : Unary-F ℕ ℕ → ℕ
unary_nest_step (Unary-F.Not word inner) = suc inner
unary_nest_step (Unary-F.True word) = 0
unary_nest_step (Unary-F.False word) = 0
unary_nest_step (Unary-F.Parens open_paren inner close_paren) = suc inner
unary_nest_step (Unary-F.Member atom word set) = 0
unary_nest_step (Unary-F.Compare left rel mark right) = 0
unary_nest_step (Unary-F.Flag path) = 0

-- a `=>` is open until its right side ends
abbrev pub implied_nesting : {A : Type 0} → (A → ℕ) → Option (Then A) → ℕ
implied_nesting f None = 0
implied_nesting f (Some t) = suc (f t.item)

abbrev pub cond_nest_step : Cond-F ℕ ℕ → ℕ
cond_nest_step c = max (chain_nesting (chain_nesting (λ n. n)) c.left) (implied_nesting (λ n. n) c.implied)

abbrev pub unary_nesting : Unary → ℕ
unary_nesting = fold-Unary ℕ ℕ unary_nest_step cond_nest_step

abbrev pub cond_nesting : Cond → ℕ
cond_nesting = fold-Cond ℕ ℕ unary_nest_step cond_nest_step

-- a `pair` is open until its `}`
abbrev pub field_nest_step : Field-F ℕ → ℕ
field_nest_step (Field-F.Number ex word name bounds semicolon) = 0
field_nest_step (Field-F.Flag fl word name semicolon) = 0
field_nest_step (Field-F.Set word name open_brace atoms close_brace semicolon) = 0
field_nest_step (Field-F.Pair word name open_brace fields close_brace) = suc (most (λ n. n) fields)

abbrev pub field_nesting : Field → ℕ
field_nesting = fold-Field ℕ field_nest_step

abbrev pub branch_nesting : Branch → ℕ
branch_nesting b = cond_nesting b.cond

abbrev pub txn_nesting : Txn → ℕ
txn_nesting t = most branch_nesting t.branches

abbrev pub segment_nesting : Segment → ℕ
segment_nesting s = cond_nesting s.cond

abbrev pub nesting : Tree → ℕ
nesting t = max (most field_nesting t.object.fields) (max (cond_nesting t.invariant.cond) (max (most txn_nesting t.txns) (most segment_nesting t.segments)))
