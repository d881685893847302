-- Which ruling suits a replica: what an adoption asks for.
use Rattle.std.specs.Prelude.{◌≡◌, ℕ, ◌+◌, Bool, true, List, Some, slice_get}
use Rattle.lucy_plan.specs.Segments.{IsInSegment}
use Rattle.lucy_plan.specs.declared.parts.Call.{Call}
use Rattle.lucy_expr.specs.Trees.{Tree}
use Rattle.lucy_epochs.specs.Records.{Record}
use Rattle.lucy_epochs.specs.Contributions.{Contribution, IsMade}
use Rattle.lucy_epochs.specs.Rulings.{Ruling, Opened, Nothing, BreaksOn}
use Rattle.lucy_epochs.specs.Rulings as ruling
use Rattle.lucy_replica.specs.Replicas.{Replica}
use Rattle.lucy_replica.specs.Submitting.{next_call}
use Rattle.lucy_replica.specs.Changing.{next_by, contributed}

-- the record comes after the replica's own
pub record IsNext (replica : Replica) (epoch : Record) : Type 0 where
  pub number : epoch.number ≡ replica.epoch.number + 1
  pub plan_is : epoch.plan ≡ replica.epoch.plan
  -- its opening is in its segment
  pub fits : IsInSegment epoch.plan epoch.segment epoch.opening

-- the record was opened by the replica's next call, for which it wants a change
pub record IsOpener (replica : Replica) (epoch : Record) : Type 0 where
  pub point : Tree
  pub wanted_is : replica.wanted ≡ Some point
  pub by_is : epoch.by ≡ Some (next_by replica)

-- the replica's next call, for which it wants a change, breaks the invariant on these parts, one of which is its own
pub record IsOutvoted (replica : Replica) (parts : List Contribution) : Type 0 where
  pub point : Tree
  pub wanted_is : replica.wanted ≡ Some point
  pub own_is : slice_get parts replica.number ≡ Some (contributed replica)
  -- the parts are one for each replica, all of the replica's record, and each was made
  pub of_one : (place : ℕ) (part : Contribution) → slice_get parts place ≡ Some part → part.epoch ≡ replica.epoch
  pub seats : (place : ℕ) (part : Contribution) → slice_get parts place ≡ Some part → part.replica ≡ place
  pub made : (place : ℕ) (part : Contribution) → slice_get parts place ≡ Some part → IsMade part.epoch part.state part.expression.tree
  pub breaks : (call : Call) → next_call replica ≡ Some call → BreaksOn replica.epoch parts call

-- a ruling suits a replica, as the coordinator or not
abbrev pub Suits : Ruling → Bool → Replica → Type 0
Suits (Opened epoch) coordinator replica = IsNext replica epoch × (coordinator ≡ true → IsOpener replica epoch)
Suits (ruling.Broken parts) coordinator replica = coordinator ≡ true → IsOutvoted replica parts
Suits Nothing coordinator replica = Unit {0}
