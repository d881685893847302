-- Two lists of calls, compared.
use Rattle.std.specs.Prelude.{◌≡◌, ◌≢◌, ℕ, List, Option, Some, None, slice_get}
use Rattle.lucy_plan.specs.declared.parts.Call.{Call}

-- two calls at one place of both lists that differ
pub record AreApart (ours theirs : List Call) (call other : Call) : Type 0 where
  pub place : ℕ
  pub call_is : slice_get ours place ≡ Some call
  pub other_is : slice_get theirs place ≡ Some other
  pub differ : call ≢ other

-- the lists are the same where no such pair is told
abbrev pub Compares : List Call → List Call → Option (Call × Call) → Type 0
Compares ours theirs None = ours ≡ theirs
Compares ours theirs (Some pair) = AreApart ours theirs pair.0 pair.1
