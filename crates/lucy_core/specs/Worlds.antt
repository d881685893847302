-- The world: the records that were opened, the packets that were sent, how far a change is, and all replicas.
use Rattle.std.specs.Prelude.{◌≡◌, ℕ, ◌+◌, ◌≤◌, nat_le, Bool, false, ◌&&◌, List, [], ◌∷◌, length, slice_get, unwrap_or, Some}
use Rattle.std.specs.List.{list_all}
use Rattle.lucy_plan.specs.Calls as calls
use Rattle.lucy_plan.specs.declared.parts.Call.{Call}
use Rattle.lucy_plan.specs.declared.parts.PlanParts.{PlanParts}
use Rattle.lucy_epochs.specs.Records.{Record, first_record}
use Rattle.lucy_epochs.specs.Rulings.{Ruling, Opened, Nothing}
use Rattle.lucy_epochs.specs.Rulings as ruling
use Rattle.lucy_replica.specs.Replicas.{Replica, Message, newcomer}

-- How far a change is: none is on; replicas are being frozen, by this coordinator; or it was decided, and they are thawed. Which replicas
-- are frozen stands in the list, one entry for each.
pub data Course : Type 0 where
  Idle : Course
  Freezing : (coordinator : ℕ) → (frozen : List Bool) → Course
  Decided : (coordinator : ℕ) → (ruling : Ruling) → (frozen : List Bool) → Course

-- all replicas, each at the place of its number, with the records in the order of their numbers, and every packet that was ever sent, each
-- at the place of its number
pub record World : Type 0 where
  pub records : List Record
  pub packets : List Message
  pub course : Course
  pub replicas : List Replica

-- ---- who is frozen
-- the entry at a place, false past the end
abbrev pub entry : List Bool → ℕ → Bool
entry frozen number = unwrap_or (slice_get frozen number) false

abbrev pub is_frozen : Course → ℕ → Bool
is_frozen Idle number = false
is_frozen (Freezing coordinator frozen) number = entry frozen number
is_frozen (Decided coordinator ruling frozen) number = entry frozen number

-- a record was opened that this replica has not adopted yet
abbrev pub lags : Course → ℕ → Bool
lags Idle number = false
lags (Freezing coordinator frozen) number = false
lags (Decided coordinator (Opened epoch) frozen) number = entry frozen number
lags (Decided coordinator (ruling.Broken parts) frozen) number = false
lags (Decided coordinator Nothing frozen) number = false

-- ---- what stands where
-- at this place is this replica
abbrev pub IsAt : World → ℕ → Replica → Type 0
IsAt w number replica = slice_get w.replicas number ≡ Some replica

-- the packet of this number was sent, and is this message
abbrev pub IsSent : World → ℕ → Message → Type 0
IsSent w packet message = slice_get w.packets packet ≡ Some message

-- the record stands in the list at its number
abbrev pub IsListed : World → Record → Type 0
IsListed w epoch = slice_get w.records epoch.number ≡ Some epoch

-- ---- the beginning
-- the replicas of a work from this number on, of so many in all, each before its first call
abbrev pub newcomers : Record → ℕ → ℕ → List (List Call) → List Replica
newcomers first count number [] = []
newcomers first count number (calls ∷ work) = newcomer number count first calls ∷ newcomers first count (number + 1) work

-- the world at the beginning: all replicas of the work are at the first record of the plan, nothing was sent, and no change is on
abbrev pub opening_world : PlanParts → List (List Call) → World
opening_world plan work = record { records = first_record plan ∷ []; packets = []; course = Idle; replicas = newcomers (first_record plan) (length work) 0 work }

-- calls fit a plan, and are at most 4,096
abbrev pub are_calls_of : PlanParts → List Call → Bool
are_calls_of plan list = nat_le (length list) 4096 && list_all (calls.call_fits plan) list

-- a work that can be run under a plan
pub record IsWorkOf (plan : PlanParts) (work : List (List Call)) : Type 0 where
  -- each call fits the plan
  pub fits : (number place : ℕ) (list : List Call) (call : Call) → slice_get work number ≡ Some list → slice_get list place ≡ Some call → calls.Fits plan call
  -- there are 1 to 16 replicas, with at most 4,096 calls each
  pub some_replica : 1 ≤ length work
  pub few_replicas : length work ≤ 16
  pub few_calls : (number : ℕ) (list : List Call) → slice_get work number ≡ Some list → length list ≤ 4096
