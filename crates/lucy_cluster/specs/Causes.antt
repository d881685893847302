-- Why a change stops.
use Rattle.std.specs.Prelude.{◌≡◌, ◌≢◌, ◌<◌, ℕ, List, [], ◌∷◌, Result, Ok, Err}
use Rattle.std.specs.Arc.{arc_value}
use Rattle.lucy_epochs.specs.Records.{Record}
use Rattle.lucy_epochs.specs.declared.collecting.CollectError.{CollectError}
use Rattle.lucy_epochs.specs.declared.collecting.CollectError.TheVariants as collecting
use Rattle.lucy_replica.specs.Replicas.{Replica}
use Rattle.lucy_cluster.specs.declared.error.ClusterError.{ClusterError}
use Rattle.lucy_cluster.specs.declared.error.ClusterError.TheVariants.{Apart, Seats, OutOfMemory}

-- that a part was not collected, as a cause
abbrev pub collect_cause : CollectError → ClusterError
collect_cause (collecting.Apart ours theirs) = Apart ours theirs
collect_cause collecting.OutOfMemory = OutOfMemory

-- what is told holds: the two records differ; or, among so many replicas, another one than that of the place stands there
abbrev pub IsCause : ℕ → ClusterError → Type 0
IsCause replicas (Apart ours theirs) = arc_value theirs ≢ arc_value ours
IsCause replicas (Seats place held) = (place < replicas) × (held ≢ place)
IsCause replicas OutOfMemory = Unit {0}

-- the replica under the lock of this number gave no part to a change that closes this record: it is another replica, or it has another record
abbrev pub IsUnfrozen : ℕ → Record → Replica → ClusterError → Type 0
IsUnfrozen number epoch replica (Apart ours theirs) = (arc_value ours ≡ epoch) × (arc_value theirs ≡ replica.epoch) × (replica.epoch ≢ epoch)
IsUnfrozen number epoch replica (Seats place held) = (place ≡ number) × (held ≡ replica.number) × (replica.number ≢ number)
IsUnfrozen number epoch replica OutOfMemory = Unit {0}

-- the change that closes this record was not decided: another record is the table's last one
abbrev pub IsUndecided : Record → Record → ClusterError → Type 0
IsUndecided epoch last (Apart ours theirs) = (arc_value ours ≡ epoch) × (arc_value theirs ≡ last) × (last ≢ epoch)
IsUndecided epoch last (Seats place held) = ⊥
IsUndecided epoch last OutOfMemory = Unit {0}

-- the first refusal among answers in this order, if there is one
abbrev pub refusal_of : List (Result (Unit {0}) ClusterError) → Result (Unit {0}) ClusterError
refusal_of [] = Ok tt
refusal_of (Ok done ∷ answers) = refusal_of answers
refusal_of (Err error ∷ answers) = Err error
