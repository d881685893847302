-- Conditions, with a count of their nodes in text order.
use Rattle.std.specs.Prelude.{ℕ, ◌+◌, nat_lt, List, [], ◌∷◌, ◌++◌, map, if◌then◌else◌, Option, Some, None, Result, Ok, Err}
use Rattle.lucy_model.specs.declared.conditions.Op.{Op}
use Rattle.lucy_model.specs.declared.conditions.Op.TheVariants as op
use Rattle.lucy_model.specs.declared.conditions.Condition.{Condition}
use Rattle.lucy_model.specs.declared.conditions.Condition.TheVariants as form
use Rattle.lucy_plan.specs.declared.refusal.What.TheVariants as what
use Rattle.lucy_plan.specs.Sizes.{most_nodes}
use Rattle.lucy_tree.specs.declared.marks.Span.{Span}
use Rattle.lucy_tree.specs.declared.marks.Name.{Name}
use Rattle.lucy_tree.specs.declared.marks.Then.{Then}
use Rattle.lucy_tree.specs.declared.marks.Chain.{Chain}
use Rattle.lucy_tree.specs.declared.terms.Factor.{Factor}
use Rattle.lucy_tree.specs.declared.terms.Factor.TheVariants as factor
use Rattle.lucy_tree.specs.declared.terms.Relation.{Relation}
use Rattle.lucy_tree.specs.declared.terms.Relation.TheVariants as relation
use Rattle.lucy_tree.specs.declared.terms.Term.{Term}
use Rattle.lucy_tree.specs.declared.conditions.Cond.{Cond}
use Rattle.lucy_tree.specs.declared.conditions.Unary.{Unary}
use Rattle.lucy_tree.specs.declared.conditions.Unary.TheOpen.{Unary-F, Cond-F}
use Rattle.lucy_tree.specs.declared.conditions.Unary.TheFolds.{fold-Unary, fold-Cond}
use Rattle.lucy_gather.specs.declared.error.ElabError.{ElabError}
use Rattle.lucy_gather.specs.declared.error.ElabError.TheVariants as error
use Rattle.lucy_gather.specs.declared.scopes.Meaning.{Meaning}
use Rattle.lucy_gather.specs.declared.scopes.Meaning.TheVariants as meaning
use Rattle.lucy_gather.specs.declared.scopes.Entry.{Entry}
use Rattle.lucy_gather.specs.declared.scopes.Scope.{Scope}
use Rattle.lucy_gather.specs.Steps.{Step, ◌>>=◌, pure, lifted, then_of}
use Rattle.lucy_gather.specs.Scopes.{Path, held, meaning_of, flag_at, atom_at, number_at}
use Rattle.lucy_gather.specs.Terms.{compared}

-- the state is the number of nodes so far
abbrev pub Counted : Type 0
Counted = Step ℕ Condition

-- one more node
unfoldable pub counted : Step ℕ (Unit {0})
counted = λ n. if nat_lt n most_nodes then Ok (tt, n + 1) else Err (error.Limit what.Conditions (most_nodes + 1))

abbrev pub op_of : Relation → Op
op_of relation.LessEqual = op.Le
op_of relation.Less = op.Lt
op_of relation.GreaterEqual = op.Ge
op_of relation.Greater = op.Gt
op_of relation.Equal = op.Eq
op_of relation.NotEqual = op.Ne

abbrev pub then_map : {X Y : Type 0} → (X → Y) → Then X → Then Y
then_map f t = record { mark = t.mark; item = f t.item }

abbrev pub chain_map : {X Y : Type 0} → (X → Y) → Chain X → Chain Y
chain_map f c = record { first = f c.first; others = map (then_map f) c.others }

-- ---- lists of `and` and of `or`

-- the conditions behind those that are found
abbrev pub all_of : {X : Type 0} → (X → Counted) → List (Then X) → List Condition → Step ℕ (List Condition)
all_of f [] found = pure found
all_of f (t ∷ ts) found = f t.item >>= λ c. all_of f ts (found ++ c ∷ [])

-- a lone condition is itself; a list is counted at its first sign
abbrev pub listed : {X : Type 0} → (List Condition → Condition) → (X → Counted) → List (Then X) → Condition → Counted
listed build f [] first = pure first
listed build f (t ∷ ts) first = do
  _ ← counted
  parts ← all_of f (t ∷ ts) (first ∷ [])
  pure (build parts)

abbrev pub itself : Counted → Counted
itself c = c

-- the first, and what is listed behind it
abbrev pub chained : {X : Type 0} → (List Condition → Condition) → (X → Counted) → Chain X → Counted
chained build f chain = f chain.first >>= λ first. listed build f chain.others first

unfoldable pub conj_step : Chain Counted → Counted
conj_step chain = chained form.And itself chain

unfoldable pub disj_step : Chain (Chain Counted) → Counted
disj_step chain = chained form.Or conj_step chain

-- `=>` is counted at its place
abbrev pub implied_by : {X : Type 0} → (X → Counted) → Option (Then X) → Condition → Counted
implied_by f None left = pure left
implied_by f (Some t) left = do
  _ ← counted
  right ← f t.item
  pure (form.Implies left right)

-- ---- parts

module _ (scope : Scope) (params : List Entry) where
  -- a fault at the first token of a comparison comes before the count's
  abbrev pub opened_by : Option Span → Factor → Result (Unit {0}) ElabError
  opened_by None (factor.Path path) = then_of (number_at scope params path) (λ v. Ok tt)
  opened_by _ _ = Ok tt

  unfoldable pub opened : Term → Result (Unit {0}) ElabError
  opened t = opened_by t.minus t.first.first

  unfoldable pub comparison : Term → Relation → Term → Counted
  comparison left relation right = do
    _ ← lifted (opened left)
    _ ← counted
    term ← lifted (compared scope params left right)
    pure (form.Compare term (op_of relation))

  -- an atom that its set does not have; a fault of the path comes later
  abbrev pub known_by : ℕ → Option Meaning → Result (Unit {0}) ElabError
  known_by at None = Err (error.UnknownName at)
  known_by at (Some m) = Ok tt

  abbrev pub known_in : Name → Option Meaning → Result (Unit {0}) ElabError
  known_in atom (Some (meaning.Set group first count)) = known_by atom.span.start (held group atom.text scope.entries)
  known_in atom _ = Ok tt

  unfoldable pub known : Name → Path → Result (Unit {0}) ElabError
  known atom set = known_in atom (meaning_of scope params set)

  unfoldable pub member : Name → Path → Counted
  member atom set = do
    _ ← lifted (known atom set)
    _ ← counted
    leaf ← lifted (atom_at scope params set atom)
    pure (form.Is leaf)

  unfoldable pub flag : Path → Counted
  flag path = do
    leaf ← lifted (flag_at scope params path)
    _ ← counted
    pure (form.Is leaf)

  abbrev pub constant : Condition → Counted
  constant c = do
    _ ← counted
    pure c

  abbrev pub negated : Counted → Counted
  negated c = do
    _ ← counted
    inner ← c
    pure (form.Not inner)

  abbrev pub unary_step : Unary-F Counted Counted → Counted
  unary_step (Unary-F.Not word inner) = negated inner
  unary_step (Unary-F.True word) = constant form.True
  unary_step (Unary-F.False word) = constant form.False
  unary_step (Unary-F.Parens open_paren inner close_paren) = inner
  unary_step (Unary-F.Member atom word set) = member atom set
  unary_step (Unary-F.Compare left relation mark right) = comparison left relation right
  unary_step (Unary-F.Flag path) = flag path

  abbrev pub cond_step : Cond-F Counted Counted → Counted
  cond_step c = disj_step c.left >>= λ left. implied_by itself c.implied left

  abbrev pub unary_of : Unary → Counted
  unary_of = fold-Unary Counted Counted unary_step cond_step

  abbrev pub condition_of : Cond → Counted
  condition_of = fold-Cond Counted Counted unary_step cond_step
