-- What threads left behind, and which differences hold of it.
use Rattle.std.specs.Prelude.{◌≡◌, ◌≢◌, ◌⊎◌, ℕ, ◌+◌, ◌<◌, ℤ, List, length, Option, Some, None, slice_get, Contains}
use Rattle.std.specs.Option.{option_map}
use Rattle.std.specs.Arc.{arc_value}
use Rattle.lucy_plan.specs.Segments.{first_segment}
use Rattle.lucy_plan.specs.declared.parts.Call.{Call}
use Rattle.lucy_plan.specs.declared.parts.PlanParts.{PlanParts}
use Rattle.lucy_expr.specs.Trees.{Tree, ids}
use Rattle.lucy_expr.specs.declared.ids.Id.{Id}
use Rattle.lucy_epochs.specs.declared.causes.By.{By}
use Rattle.lucy_epochs.specs.Records.{Record, first_record, next_opening}
use Rattle.lucy_epochs.specs.Contributions.{Contribution}
use Rattle.lucy_replica.specs.Replicas.{Answer, Moved, Refused, Stay, Replica, stays}
use Rattle.lucy_replica.specs.Openings.{trees_in}
use Rattle.lucy_replica.specs.Legal.{records_of, accepted_to, IsLegal}
use Rattle.lucy_replica.specs.Answering.{answer_of}
use Rattle.lucy_audit.specs.declared.differences.Audit.{Audit}
use Rattle.lucy_audit.specs.declared.differences.Audit.TheVariants.{Agreed, Apart}
use Rattle.lucy_audit.specs.declared.differences.Difference.{Difference}
use Rattle.lucy_audit.specs.declared.differences.Difference.TheVariants.{Seats, Calls, Records, Opening, Named, Counts, Lengths}

-- what was given, and what is left: the plan, the work, the records of the table, and the replicas
pub record Left : Type 0 where
  pub plan : PlanParts
  pub work : List (List Call)
  pub table : List Record
  pub replicas : List Replica

-- at this place stands this replica
abbrev pub IsAt : Left → ℕ → Replica → Type 0
IsAt left number replica = slice_get left.replicas number ≡ Some replica

-- this is the replica's record of this number
abbrev pub HasRecord : Replica → ℕ → Record → Type 0
HasRecord replica number epoch = slice_get (records_of replica) number ≡ Some epoch

-- ---- the differences, kind by kind

-- another replica stands at this place
pub record IsMisplaced (left : Left) (place held : ℕ) : Type 0 where
  pub replica : Replica
  pub at : IsAt left place replica
  pub held_is : held ≡ replica.number
  pub differ : held ≢ place

-- a call of this replica is another than the work's at the same place
pub record AreOtherCalls (left : Left) (number : ℕ) (ours theirs : Call) : Type 0 where
  pub replica : Replica
  pub at : IsAt left number replica
  pub list : List Call
  pub list_at : slice_get left.work number ≡ Some list
  pub place : ℕ
  pub ours_is : slice_get replica.calls place ≡ Some ours
  pub theirs_is : slice_get list place ≡ Some theirs
  pub differ : ours ≢ theirs

-- what the record of this number is compared with: another replica's, the table's, for the first one that of the plan
abbrev pub IsCompared : Left → ℕ → Record → Type 0
IsCompared left number theirs =
    ((at : ℕ) × (other : Replica) × IsAt left at other × HasRecord other number theirs)
    ⊎ ((slice_get left.table number ≡ Some theirs)
    ⊎ ((number ≡ 0) × (theirs ≡ first_record left.plan)))

-- a record of a replica is another than one of the same number
pub record AreOtherRecords (left : Left) (ours theirs : Record) : Type 0 where
  pub at : ℕ
  pub replica : Replica
  pub replica_at : IsAt left at replica
  pub number : ℕ
  pub ours_is : HasRecord replica number ours
  pub theirs_is : IsCompared left number theirs
  pub differ : ours ≢ theirs

-- Two lengths that are to be the same: those of its records and of the first replica's, of its calls and of the work's
-- list, of its replies and of its calls, of the parts of a refused reply and of the replicas.
abbrev pub AreToBeSame : Left → ℕ → Replica → ℕ → ℕ → Type 0
AreToBeSame left number replica ours theirs =
    ((first : Replica) × IsAt left 0 first × (ours ≡ length (records_of replica)) × (theirs ≡ length (records_of first)))
    ⊎ (((list : List Call) × (slice_get left.work number ≡ Some list) × (ours ≡ length replica.calls) × (theirs ≡ length list))
    ⊎ (((ours ≡ length replica.replies) × (theirs ≡ length replica.calls))
    ⊎ ((place : ℕ) × (point : Tree) × (parts : List Contribution) × (slice_get replica.replies place ≡ Some (Refused point parts))
    × (ours ≡ length parts) × (theirs ≡ length left.replicas))))

-- one of these lengths of this replica is another
pub record AreOtherLengths (left : Left) (number ours theirs : ℕ) : Type 0 where
  pub replica : Replica
  pub at : IsAt left number replica
  pub lengths : AreToBeSame left number replica ours theirs
  pub differ : ours ≢ theirs

-- an expression of the record of this number that a replica keeps: what it has of the record, or a part on which a call
-- of it was refused
abbrev pub IsKeptBy : Replica → ℕ → Tree → Type 0
IsKeptBy replica number tree =
    ((stay : Stay) × Contains (stays replica) stay × (stay.epoch.number ≡ number) × (stay.tree ≡ tree))
    ⊎ ((place : ℕ) × (point : Tree) × (parts : List Contribution) × (seat : ℕ) × (part : Contribution)
    × (slice_get replica.replies place ≡ Some (Refused point parts)) × (slice_get parts seat ≡ Some part)
    × (part.epoch.number ≡ number) × (part.expression.tree ≡ tree))

-- how many calls a replica accepted in records up to the one of this number: none where there is no replica
abbrev pub accepted_by : ℕ → Option Replica → ℕ
accepted_by number None = 0
accepted_by number (Some replica) = accepted_to number replica.replies

-- In an expression that is kept there is an id of this replica, whose count is one less than `held`. That many calls
-- the replica had not accepted in records up to the expression's.
pub record IsOvercount (left : Left) (owner held accepted : ℕ) : Type 0 where
  pub at : ℕ
  pub replica : Replica
  pub replica_at : IsAt left at replica
  pub number : ℕ
  pub tree : Tree
  pub kept : IsKeptBy replica number tree
  pub id : Id
  pub in_tree : Contains (ids tree) id
  pub owner_is : id.replica ≡ owner
  pub held_is : held ≡ id.count + 1
  pub accepted_is : accepted ≡ accepted_by number (slice_get left.replicas owner)
  pub over : accepted < held

-- a replica has this record, and before it another one
pub record IsLater (left : Left) (before after : Record) : Type 0 where
  pub at : ℕ
  pub replica : Replica
  pub replica_at : IsAt left at replica
  pub number : ℕ
  pub before_is : HasRecord replica number before
  pub after_is : HasRecord replica (number + 1) after

-- The call that a later record names gives this result on the merge of what all replicas had of the record before.
-- Either it is not the record's opening, or the record's segment is not its first one.
pub record IsOtherOpening (left : Left) (kept : Record) (result : List ℤ) : Type 0 where
  pub before : Record
  pub later : IsLater left before kept
  pub by : By
  pub by_is : kept.by ≡ Some by
  pub opener : Replica
  pub opener_at : IsAt left by.replica opener
  pub call : Call
  pub call_is : slice_get opener.calls by.place ≡ Some call
  pub result_is : result ≡ next_opening before (trees_in left.replicas before.number) call
  pub differ : (result ≢ kept.opening) ⊎ (first_segment before.plan result ≢ Some kept.segment)

-- the reply that this names, if there is one
abbrev pub reply_in : Option Replica → ℕ → Option Answer
reply_in None place = None
reply_in (Some replica) place = slice_get replica.replies place

-- the reply that a record names, none where it names none
abbrev pub named_reply : List Replica → Option By → Option Answer
named_reply replicas None = None
named_reply replicas (Some by) = reply_in (slice_get replicas by.replica) by.place

-- the id of the call that this names
abbrev pub id_of : By → Id
id_of by = record { replica = by.replica; count = by.count }

-- this is the reply that the call opened this record
abbrev pub IsMoveTo : Record → Option Answer → Type 0
IsMoveTo epoch reply = (by : By) × (point : Tree) × (epoch.by ≡ Some by) × (reply ≡ Some (Moved epoch point (id_of by)))

-- a later record names no call, or one that has not the reply that it opened this record
pub record IsUnnamed (left : Left) (kept : Record) (reply : Option Answer) : Type 0 where
  pub before : Record
  pub later : IsLater left before kept
  pub reply_is : reply ≡ named_reply left.replicas kept.by
  pub differ : ¬ (IsMoveTo kept reply)

-- a difference holds of what is left
abbrev pub Holds : Left → Difference → Type 0
Holds left (Seats place held) = IsMisplaced left place held
Holds left (Calls replica ours theirs) = AreOtherCalls left replica ours theirs
Holds left (Records ours theirs) = AreOtherRecords left (arc_value ours) (arc_value theirs)
Holds left (Opening kept result) = IsOtherOpening left (arc_value kept) result
Holds left (Named kept reply) = IsUnnamed left (arc_value kept) (option_map answer_of reply)
Holds left (Counts replica held accepted) = IsOvercount left replica held accepted
Holds left (Lengths replica ours theirs) = AreOtherLengths left replica ours theirs

-- ---- the audit

-- the outcome is legal, and no record of it is another than the table's of the same number
pub record IsAgreed (left : Left) : Type 0 where
  pub legal : IsLegal left.plan left.work left.replicas
  pub listed : (at : ℕ) (replica : Replica) (number : ℕ) (ours theirs : Record) → IsAt left at replica → HasRecord replica number ours
      → slice_get left.table number ≡ Some theirs → ours ≡ theirs

-- what an audit tells: that all agrees, or else a difference that holds
abbrev pub Tells : Left → Audit → Type 0
Tells left Agreed = IsAgreed left
Tells left (Apart difference) = Holds left difference × (¬ (IsAgreed left))
