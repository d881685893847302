-- Which outcomes are legal: what all replicas of a work show at the end, without packets and without a change.
use Rattle.std.specs.Prelude.{◌≡◌, ℕ, ◌+◌, ◌<◌, nat_le, Bool, false, if◌then◌else◌, List, [], ◌∷◌, length, map, Option, Some, None, slice_get, Contains}
use Rattle.lucy_plan.specs.declared.parts.Call.{Call}
use Rattle.lucy_plan.specs.declared.parts.PlanParts.{PlanParts}
use Rattle.lucy_expr.specs.Trees.{Tree, ids}
use Rattle.lucy_expr.specs.declared.ids.Id.{Id}
use Rattle.lucy_epochs.specs.declared.causes.By.{By}
use Rattle.lucy_epochs.specs.Records.{Record, first_record}
use Rattle.lucy_epochs.specs.Contributions.{Contribution, IsMade}
use Rattle.lucy_replica.specs.Replicas.{Answer, Refused, Stay, Replica, stays}
use Rattle.lucy_replica.specs.Facts.{IsRight, done_in, spine_calls, accepted_in}
use Rattle.lucy_replica.specs.Openings.{IsOpening, IsReplied}

-- the records that a replica had, the present one last
abbrev pub records_of : Replica → List Record
records_of replica = map (λ stay. stay.epoch) (stays replica)

-- how many calls were accepted in records up to the one of this number
abbrev pub is_up_to : ℕ → Option ℕ → Bool
is_up_to number None = false
is_up_to number (Some at) = nat_le at number

abbrev pub one_if : Bool → ℕ
one_if holds = if holds then 1 else 0

abbrev pub accepted_to : ℕ → List Answer → ℕ
accepted_to number [] = 0
accepted_to number (answer ∷ replies) = one_if (is_up_to number (accepted_in answer)) + accepted_to number replies

-- each id in an expression of the record of this number is of a call that its replica accepted in records up to it
abbrev pub AreAccepted : List Replica → ℕ → Tree → Type 0
AreAccepted replicas number tree =
    (id : Id) → Contains (ids tree) id → (owner : Replica) × (slice_get replicas id.replica ≡ Some owner) × (id.count < accepted_to number owner.replies)

-- the outcome of all replicas of a work under a plan
pub record IsLegal (plan : PlanParts) (work : List (List Call)) (replicas : List Replica) : Type 0 where
  -- all replicas had the same records, and the first is the plan's
  pub records : List Record
  pub same : (number : ℕ) (replica : Replica) → slice_get replicas number ≡ Some replica → records_of replica ≡ records
  pub first : slice_get records 0 ≡ Some (first_record plan)
  -- each later one was opened from the one before it, and its call has the reply that it did
  pub opened : (place : ℕ) (before after : Record) → slice_get records place ≡ Some before → slice_get records (place + 1) ≡ Some after
      → (by : By) × IsOpening replicas before after by × IsReplied replicas after by
  -- what a replica has of a record is reachable there, and the state is its value
  pub made : (number : ℕ) (replica : Replica) (stay : Stay) → slice_get replicas number ≡ Some replica → Contains (stays replica) stay → IsMade stay.epoch stay.state stay.tree
  -- the replicas are those of the work, and each call has its reply
  pub numbers : (number : ℕ) (replica : Replica) → slice_get replicas number ≡ Some replica → replica.number ≡ number
  pub calls : map (λ replica. replica.calls) replicas ≡ work
  pub all_answered : (number : ℕ) (replica : Replica) → slice_get replicas number ≡ Some replica → length replica.replies ≡ length replica.calls
  -- the calls that are done in a record are, in order, those of the spine there
  pub done : (number : ℕ) (replica : Replica) (stay : Stay) → slice_get replicas number ≡ Some replica → Contains (stays replica) stay
      → done_in stay.epoch.number replica.calls replica.replies ≡ spine_calls stay.tree
  -- aborts, refusals and moves have their causes, and a refusal has a part of each replica
  pub right : (number : ℕ) (replica : Replica) (place : ℕ) (call : Call) → slice_get replicas number ≡ Some replica → slice_get replica.calls place ≡ Some call
      → (answer : Answer) × (slice_get replica.replies place ≡ Some answer) × IsRight replica place call answer
  pub parts_many : (number : ℕ) (replica : Replica) (place : ℕ) (point : Tree) (parts : List Contribution)
      → slice_get replicas number ≡ Some replica → slice_get replica.replies place ≡ Some (Refused point parts) → length parts ≡ length replicas
  -- no expression has a call that its replica had not accepted by then
  pub accepted : (number : ℕ) (replica : Replica) (stay : Stay) → slice_get replicas number ≡ Some replica → Contains (stays replica) stay
      → AreAccepted replicas stay.epoch.number stay.tree
  pub parts_accepted : (number : ℕ) (replica : Replica) (place : ℕ) (point : Tree) (parts : List Contribution) (seat : ℕ) (part : Contribution)
      → slice_get replicas number ≡ Some replica → slice_get replica.replies place ≡ Some (Refused point parts) → slice_get parts seat ≡ Some part
      → AreAccepted replicas part.epoch.number part.expression.tree
