-- A change by locks: what was collected on the way down, and what is decided at the bottom and handed up.
use Rattle.std.specs.Prelude.{◌≡◌, ℕ, ◌<◌, ◌≤◌, ◌==◌, List, ◌∷◌, [], ◌++◌, length, replicate, Option, Some, None, slice_get}
use Rattle.lucy_plan.specs.declared.parts.Call.{Call}
use Rattle.lucy_epochs.specs.declared.causes.By.{By}
use Rattle.lucy_epochs.specs.Records.{Record}
use Rattle.lucy_epochs.specs.Contributions.{Contribution, IsMade}
use Rattle.lucy_epochs.specs.Collections.{Collected, with_part}
use Rattle.lucy_epochs.specs.Rulings.{Ruling, rule}
use Rattle.lucy_epochs.specs.Rulings as ruling
use Rattle.lucy_epochs.specs.Sharing.{ruling_of}
use Rattle.lucy_replica.specs.Replicas.{Replica}
use Rattle.lucy_replica.specs.Changing.{contributed, wish_of, adopted}
use Rattle.lucy_cluster.specs.declared.deciding.Changed.{Changed}
use Rattle.lucy_cluster.specs.declared.deciding.Changed.TheVariants.{Moved, Refused, Nothing}
use Rattle.lucy_cluster.specs.declared.deciding.Decision.{Decision}

-- what the coordinator of a change is answered
abbrev pub changed_by : Ruling → Changed
changed_by (ruling.Opened epoch) = Moved
changed_by (ruling.Broken parts) = Refused
changed_by ruling.Nothing = Nothing

-- a record that is opened stands behind the others
abbrev pub noted : List Record → Ruling → List Record
noted records (ruling.Opened epoch) = records ++ epoch ∷ []
noted records (ruling.Broken parts) = records
noted records ruling.Nothing = records

-- a record that a ruling opens is the next one
abbrev pub IsNextOf : List Record → Ruling → Type 0
IsNextOf records (ruling.Opened epoch) = epoch.number ≡ length records
IsNextOf records (ruling.Broken parts) = Unit {0}
IsNextOf records ruling.Nothing = Unit {0}

-- of so many replicas, those below this number have given their parts, and the others have not
pub record AreCollected (replicas number : ℕ) (collected : Collected) : Type 0 where
  pub many : length collected.seats ≡ replicas
  pub taken : (place : ℕ) → place < number → (part : Contribution) × (slice_get collected.seats place ≡ Some (Some part))
  pub free : (place : ℕ) → number ≤ place → place < replicas → slice_get collected.seats place ≡ Some None

-- a change is decided on all parts, for the call that is wanted, if one is, and its name: what was collected of them so far is among them
pub record IsDecided (collected : Collected) (wanted : Option (Call × By)) (ruling : Ruling) : Type 0 where
  pub parts : List Contribution
  pub begins : (place : ℕ) (part : Contribution) → slice_get collected.seats place ≡ Some (Some part) → slice_get parts place ≡ Some part
  -- the parts are one for each replica, in the order of their numbers, all of the record that is closed, and each was made
  pub seats : (place : ℕ) (part : Contribution) → slice_get parts place ≡ Some part → part.replica ≡ place
  pub of_one : (place : ℕ) (part : Contribution) → slice_get parts place ≡ Some part → part.epoch ≡ collected.epoch
  pub made : (place : ℕ) (part : Contribution) → slice_get parts place ≡ Some part → IsMade part.epoch part.state part.expression.tree
  pub ruling_is : ruling ≡ rule collected.epoch parts wanted

-- what is handed up to the replicas below this number: the change is decided, and there is a grant of the ruling for each of them.
-- Where the coordinator is one of them, the call that is wanted is the one that it gave.
pub record IsHandedUp (collected : Collected) (number coordinator : ℕ) (given : Option (Call × By)) (decision : Decision) : Type 0 where
  pub wanted : Option (Call × By)
  pub wanted_is : coordinator < number → wanted ≡ given
  pub decided : IsDecided collected wanted (ruling_of decision.ruling)
  pub grants_are : decision.grants.items ≡ replicate number (ruling_of decision.ruling)

-- What a change does to the replica of this number while its lock is held: its part is what stands there, it acts by the ruling on
-- all parts, as the coordinator or not, and the grants of those below it are handed up. Where it is the coordinator, the call that is
-- wanted is the one that it wants.
pub record IsChanged (collected : Collected) (number coordinator : ℕ) (given : Option (Call × By)) (before after : Replica) (decision : Decision) : Type 0 where
  pub number_is : before.number ≡ number
  pub wanted : Option (Call × By)
  pub wanted_is : coordinator < number → wanted ≡ given
  pub wanted_here : coordinator ≡ number → wanted ≡ wish_of before
  pub decided : IsDecided (with_part collected (contributed before)) wanted (ruling_of decision.ruling)
  pub after_is : after ≡ (adopted (ruling_of decision.ruling) (number == coordinator) before).1
  pub grants_are : decision.grants.items ≡ replicate number (ruling_of decision.ruling)
