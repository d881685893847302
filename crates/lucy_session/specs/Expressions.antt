-- The texts of expressions.
use Rattle.std.specs.Prelude.{◌≡◌, ℕ, zero, suc, ◌-◌, ◌<◌, ◌==◌, Bool, true, false, if◌then◌else◌, ℤ, pos, List, [], ◌∷◌, ◌++◌, ◌&&◌, int_le, Option, Some, None, slice_get, unsigned_abs, codes, Ok, Err}
use Rattle.lucy_io.specs.Decimals.{number_of}
use Rattle.lucy_names.specs.Plans.{txn_names}
use Rattle.lucy_names.specs.Tables.{place_of}
use Rattle.lucy_plan.specs.declared.parts.Call.{Call}
use Rattle.lucy_plan.specs.declared.parts.Limits.{Limits}
use Rattle.lucy_plan.specs.declared.parts.PlanParts.{PlanParts}
use Rattle.lucy_plan.specs.declared.parts.Txn.{Txn}
use Rattle.lucy_expr.specs.Trees.{Tree, Start, Apply, Merge}
use Rattle.lucy_walks.specs.Sketches.{unnamed}
use Rattle.lucy_session.specs.declared.answers.LabelError.{LabelError}
use Rattle.lucy_session.specs.declared.answers.LabelError.TheVariants.{BadLabel}
use Rattle.lucy_session.specs.Reading.{Reader, ◌>>=◌, pure, refuse, eat, expect, field}

-- ---- calls

abbrev pub or_refuse : {A : Type 0} → Option A → Reader A
or_refuse None = refuse
or_refuse (Some x) = pure x

abbrev pub where_between : ℤ → ℤ → Option ℤ → Option ℤ
where_between lo hi None = None
where_between lo hi (Some z) = if int_le lo z && int_le z hi then Some z else None

-- a canonical decimal from `lo` to `hi`
unfoldable pub between : ℤ → ℤ → List ℕ → Option ℤ
between lo hi text = where_between lo hi (number_of text)

-- a number from `lo` to `hi`, and a space
unfoldable pub number : ℤ → ℤ → Reader ℤ
number lo hi = field >>= λ digits. or_refuse (between lo hi digits)

-- a replica, 0 to 15, and a space
unfoldable pub replica : Reader ℕ
replica = number (pos 0) (pos 15) >>= λ z. pure (unsigned_abs z)

-- a number in its range for each parameter, behind those that were read, a space behind each
abbrev pub arguments_on : List ℤ → List Limits → Reader (List ℤ)
arguments_on found [] = pure found
arguments_on found (limits ∷ params) = number limits.lo limits.hi >>= λ x. arguments_on (found ++ x ∷ []) params

-- the parameters of a transaction, if there is one
abbrev pub params_of : Option Txn → List Limits
params_of None = []
params_of (Some txn) = txn.params

-- a transaction's name, and a space
unfoldable pub txn : PlanParts → Reader ℕ
txn plan = field >>= λ name. or_refuse (place_of (txn_names plan) name)

-- a transaction's name and its arguments
unfoldable pub call : PlanParts → Reader Call
call plan = do
  place ← txn plan
  arguments ← arguments_on [] (params_of (slice_get plan.txns place))
  pure (record { txn = place; arguments = arguments })

-- ---- expressions. `depth` is how many more parentheses may stand open; `inner` reads what stands inside one of them.

-- a parenthesis may be opened
unfoldable pub opened : ℕ → Reader (Unit {0})
opened depth = λ text. if depth == 0 then Err BadLabel else Ok (tt, text)

module _ (plan : PlanParts) (depth : ℕ) (inner : Reader Tree) where
  -- replica, name, arguments, expression, ")"
  unfoldable pub apply : Reader Tree
  apply = do
    may ← opened depth
    who ← replica
    what ← call plan
    part ← inner
    close ← expect (codes ")")
    pure (Apply (unnamed who) what part)

  -- expression, " ", expression, ")"
  unfoldable pub merge : Reader Tree
  merge = do
    may ← opened depth
    left ← inner
    space ← expect (codes " ")
    right ← inner
    close ← expect (codes ")")
    pure (Merge left right)

  abbrev pub by_merge : Bool → Reader Tree
  by_merge true = merge
  by_merge false = refuse

  abbrev pub by_do : Bool → Reader Tree
  by_do true = apply
  by_do false = eat (codes "(merge ") >>= by_merge

  abbrev pub by_start : Bool → Reader Tree
  by_start true = pure Start
  by_start false = eat (codes "(do ") >>= by_do

  -- "start", "(do " and an apply, or "(merge " and a merge
  unfoldable pub expr_in : Reader Tree
  expr_in = eat (codes "start") >>= by_start

-- what stands inside a parenthesis, where `depth` may be opened
unfoldable pub inner : PlanParts → ℕ → Reader Tree
inner plan zero = refuse
inner plan (suc depth) = expr_in plan depth (inner plan depth)

-- an expression, its calls without names
abbrev pub expr : PlanParts → ℕ → Reader Tree
expr plan depth = expr_in plan depth (inner plan depth)

-- what is read inside a parenthesis that may be opened
pub record Inside (plan : PlanParts) (depth : ℕ) : Type 0 where
  pub positive : 0 < depth
  pub expr : (text : List ℕ) → inner plan depth text ≡ expr plan (depth - 1) text
