-- What each check of an audit finds to hold where it finds no difference.
use Rattle.std.specs.Prelude.{◌≡◌, ◌≢◌, ◌⊎◌, ℕ, ◌+◌, ◌<◌, ◌≤◌, ℤ, Bool, true, false, List, length, map, Option, Some, None, slice_get}
use Rattle.std.specs.Arc.{arc_value}
use Rattle.lucy_plan.specs.declared.parts.Call.{Call}
use Rattle.lucy_plan.specs.Segments.{first_segment}
use Rattle.lucy_expr.specs.Trees.{Tree, reach, value}
use Rattle.lucy_epochs.specs.declared.causes.By.{By}
use Rattle.lucy_epochs.specs.Records.{Record, first_record}
use Rattle.lucy_epochs.specs.Contributions.{Contribution, IsMade}
use Rattle.lucy_replica.specs.Replicas.{Answer, Done, Broken, Moved, Refused, Stay, Replica, stays}
use Rattle.lucy_replica.specs.Openings.{IsOpening, IsReplied, tree_in}
use Rattle.lucy_replica.specs.Facts.{IsSettled}
use Rattle.lucy_replica.specs.Legal.{records_of, AreAccepted}
use Rattle.lucy_audit.specs.Differences.{Left, IsAt, HasRecord, IsKeptBy, IsMoveTo, accepted_by, id_of, Holds}
use Rattle.lucy_audit.specs.declared.differences.Stop.{Stop}
use Rattle.lucy_audit.specs.declared.differences.Stop.TheVariants.{Found, OutOfMemory}
use Rattle.lucy_audit.specs.declared.kept.Kept.{Kept}

-- what is audited, without pointers
abbrev pub left_of : Kept → Left
left_of kept = record {
  plan = arc_value kept.plan.now;
  work = kept.work.now;
  table = map arc_value kept.table.now;
  replicas = map (λ life. life.replica) kept.lives.now;
}

-- an audit stops because of a difference that holds, or for want of memory
abbrev pub IsCause : Left → Stop → Type 0
IsCause left (Found difference) = Holds left difference
IsCause left OutOfMemory = Unit {0}

-- the replica at this place has its number
abbrev pub IsSeated : Left → ℕ → Type 0
IsSeated left place = (replica : Replica) → IsAt left place replica → replica.number ≡ place

-- its calls are those of the work's list
abbrev pub HasItsCalls : Left → ℕ → Type 0
HasItsCalls left place = (replica : Replica) → IsAt left place replica → slice_get left.work place ≡ Some replica.calls

-- each of its calls has a reply
abbrev pub IsAnswered : Left → ℕ → Type 0
IsAnswered left place = (replica : Replica) → IsAt left place replica → length replica.replies ≡ length replica.calls

-- its records are those of the first replica
abbrev pub HasSameRecords : Left → ℕ → Type 0
HasSameRecords left place = (replica first : Replica) → IsAt left place replica → IsAt left 0 first → records_of replica ≡ records_of first

-- the same of one record
abbrev pub HasSameRecord : Left → ℕ → ℕ → Type 0
HasSameRecord left place number =
    (replica first : Replica) (ours theirs : Record) → IsAt left place replica → IsAt left 0 first → HasRecord replica number ours → HasRecord first number theirs
    → ours ≡ theirs

-- an expression of the record of this number is kept by a replica
abbrev pub IsKept : Left → ℕ → Tree → Type 0
IsKept left number tree = (at : ℕ) × (replica : Replica) × IsAt left at replica × IsKeptBy replica number tree

-- a call of the replica at this place was refused with these parts
abbrev pub IsRefusedWith : Left → ℕ → List Contribution → Type 0
IsRefusedWith left place parts =
    (replica : Replica) × (reply : ℕ) × (point : Tree) × IsAt left place replica × (slice_get replica.replies reply ≡ Some (Refused point parts))

-- the calls of a replica in an expression of the record of this number were accepted in records up to it
abbrev pub IsReachAccepted : Left → ℕ → Tree → ℕ → Type 0
IsReachAccepted left number tree owner = reach owner tree ≤ accepted_by number (slice_get left.replicas owner)

-- so were all calls in what the replica at this place has of a record
abbrev pub IsStayCounted : Left → ℕ → ℕ → Type 0
IsStayCounted left place number =
    (replica : Replica) (stay : Stay) → IsAt left place replica → slice_get (stays replica) number ≡ Some stay → AreAccepted left.replicas stay.epoch.number stay.tree

-- the parts are as many as the replicas, and all calls in each were accepted in records up to the part's
abbrev pub ArePartsCounted : Left → List Contribution → Type 0
ArePartsCounted left parts =
    (length parts ≡ length left.replicas)
    × ((seat : ℕ) (part : Contribution) → slice_get parts seat ≡ Some part → AreAccepted left.replicas part.epoch.number part.expression.tree)

-- this is a reply of the replica at this place
abbrev pub IsReplyOf : Left → ℕ → Answer → Type 0
IsReplyOf left place answer = (replica : Replica) × (reply : ℕ) × IsAt left place replica × (slice_get replica.replies reply ≡ Some answer)

-- a refused reply has such parts
abbrev pub IsAnswerCounted : Left → Answer → Type 0
IsAnswerCounted left (Done epoch id) = Unit {0}
IsAnswerCounted left (Broken epoch point) = Unit {0}
IsAnswerCounted left (Moved epoch point id) = Unit {0}
IsAnswerCounted left (Refused point parts) = ArePartsCounted left parts

-- such parts has this reply of the replica at this place, if it is a refused one
abbrev pub IsReplyCounted : Left → ℕ → ℕ → Type 0
IsReplyCounted left place reply =
    (replica : Replica) (point : Tree) (parts : List Contribution) → IsAt left place replica → slice_get replica.replies reply ≡ Some (Refused point parts)
    → ArePartsCounted left parts

-- all expressions that a replica keeps are so
pub record IsCounted (left : Left) (place : ℕ) : Type 0 where
  pub stays_counted : (number : ℕ) → IsStayCounted left place number
  pub replies_counted : (reply : ℕ) → IsReplyCounted left place reply

-- all of these
pub record IsFine (left : Left) (place : ℕ) : Type 0 where
  pub seated : IsSeated left place
  pub calls : HasItsCalls left place
  pub answered : IsAnswered left place
  pub records : HasSameRecords left place
  pub counted : IsCounted left place

-- the first record of the first replica is that of the plan
abbrev pub IsBegun : Left → Type 0
IsBegun left = (first : Replica) → IsAt left 0 first → HasRecord first 0 (first_record left.plan)

-- its record of this number is the table's, if there are both
abbrev pub IsListedAt : Left → ℕ → Type 0
IsListedAt left number = (first : Replica) (ours theirs : Record) → IsAt left 0 first → HasRecord first number ours → slice_get left.table number ≡ Some theirs → ours ≡ theirs

-- its records are the table's, as far as both go
abbrev pub IsListed : Left → Type 0
IsListed left = (number : ℕ) → IsListedAt left number

-- what the type of each replica keeps
abbrev pub AreSettled : Left → Type 0
AreSettled left = (place : ℕ) (replica : Replica) → IsAt left place replica → IsSettled replica

-- all replicas are as they have to be, but for how their records were opened
pub record AreFine (left : Left) : Type 0 where
  pub settled : AreSettled left
  pub fine : (place : ℕ) → place < length left.replicas → IsFine left place

-- ---- openings

-- the record after the one of this number was opened from it, by a call that has the reply that it did
abbrev pub IsOpened : Left → ℕ → Type 0
IsOpened left number =
    (first : Replica) (before after : Record) → IsAt left 0 first → HasRecord first number before → HasRecord first (number + 1) after
    → (by : By) × IsOpening left.replicas before after by × IsReplied left.replicas after by

-- the first replica's record of this number and the one after it, none where it has not both
abbrev pub AreFirst : Left → ℕ → Option (Record × Record) → Type 0
AreFirst left number None =
    (first : Replica) (before after : Record) → IsAt left 0 first → HasRecord first number before → HasRecord first (number + 1) after → ⊥
AreFirst left number (Some two) = (first : Replica) × IsAt left 0 first × HasRecord first number two.0 × HasRecord first (number + 1) two.1

-- the call that this names, if there is one
abbrev pub call_in : Option Replica → ℕ → Option Call
call_in None place = None
call_in (Some replica) place = slice_get replica.calls place

abbrev pub named_call : List Replica → By → Option Call
named_call replicas by = call_in (slice_get replicas by.replica) by.place

-- this answer says that the call that this names opened the record
abbrev pub IsMoveOf : Record → By → Answer → Type 0
IsMoveOf epoch by answer = (point : Tree) × (answer ≡ Moved epoch point (id_of by))

-- this call opened the record, where it has the reply that it did; none where it has not
abbrev pub IsMoveBy : Record → Option Answer → Option By → Type 0
IsMoveBy epoch reply None = ¬ (IsMoveTo epoch reply)
IsMoveBy epoch reply (Some by) = (point : Tree) × (epoch.by ≡ Some by) × (reply ≡ Some (Moved epoch point (id_of by)))

-- the record names this call, which has the reply that it opened the record
abbrev pub IsNamed : Left → Record → By → Type 0
IsNamed left epoch by = (epoch.by ≡ Some by) × IsReplied left.replicas epoch by

-- what a replica had of a record is of that record, reachable there, and the state is its value
pub record Had (epoch : Record) (number : ℕ) (replica : Replica) : Type 0 where
  pub stay : Stay
  pub stay_is : slice_get (stays replica) number ≡ Some stay
  pub epoch_is : stay.epoch ≡ epoch
  pub made : IsMade stay.epoch stay.state stay.tree

abbrev pub HadAll : Record → ℕ → List Replica → Type 0
HadAll epoch number replicas = (at : ℕ) (replica : Replica) → slice_get replicas at ≡ Some replica → Had epoch number replica

-- the states of all replicas in that record
abbrev pub state_in : Record → ℕ → Replica → List ℤ
state_in epoch number replica = value epoch.plan epoch.opening (tree_in number replica)

abbrev pub states_in : Record → ℕ → List Replica → List (List ℤ)
states_in epoch number replicas = map (state_in epoch number) replicas

-- whether these numbers are the opening of a record, whose segment is their first one
abbrev pub IsOpeningOf : Record → List ℤ → Bool → Type 0
IsOpeningOf epoch numbers true = (numbers ≡ epoch.opening) × (first_segment epoch.plan numbers ≡ Some epoch.segment)
IsOpeningOf epoch numbers false = (numbers ≢ epoch.opening) ⊎ (first_segment epoch.plan numbers ≢ Some epoch.segment)

-- this holds of all numbers below this one
abbrev pub Below : ℕ → (ℕ → Type 0) → Type 0
Below most Is = (number : ℕ) → number < most → Is number
