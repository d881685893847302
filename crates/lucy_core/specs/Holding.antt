-- What a change holds of the replicas that are frozen.
use Rattle.std.specs.Prelude.{◌≡◌, ◌≤◌, ℕ, List, length, Option, Some, slice_get}
use Rattle.lucy_epochs.specs.Records.{Record}
use Rattle.lucy_epochs.specs.Contributions.{Contribution}
use Rattle.lucy_epochs.specs.Collections.{Collected}
use Rattle.lucy_epochs.specs.Rulings.{Ruling}
use Rattle.lucy_epochs.specs.Rulings as ruling
use Rattle.lucy_replica.specs.Replicas.{Seen}
use Rattle.lucy_replica.specs.Changing.{contributed}

-- what was collected of the replicas that are frozen
pub record HasParts (lives : List Seen) (collected : Collected) : Type 0 where
  -- all replicas have the record that is to be closed
  pub of_one : (number : ℕ) (life : Seen) → slice_get lives number ≡ Some life → life.replica.epoch ≡ collected.epoch
  -- a part that was collected is what its replica has, and room for an adoption is reserved there
  pub parts : (number : ℕ) (life : Seen) (part : Contribution) → slice_get lives number ≡ Some life → slice_get collected.seats number ≡ Some (Some part) → part ≡ contributed life.replica
  pub reserved : (number : ℕ) (life : Seen) (part : Contribution) → slice_get lives number ≡ Some life → slice_get collected.seats number ≡ Some (Some part) → 1 ≤ life.spare

-- the grants of the replicas that are frozen
pub record HasGrants (lives : List Seen) (ruling : Ruling) (grants : List (Option Ruling)) : Type 0 where
  -- each is of the ruling, and room for an adoption is reserved at its replica
  pub granted : (number : ℕ) (grant : Ruling) → slice_get grants number ≡ Some (Some grant) → grant ≡ ruling
  pub reserved : (number : ℕ) (life : Seen) (grant : Ruling) → slice_get lives number ≡ Some life → slice_get grants number ≡ Some (Some grant) → 1 ≤ life.spare

-- a record that a ruling opens is the next one
abbrev pub IsNextOf : List Record → Ruling → Type 0
IsNextOf records (ruling.Opened epoch) = epoch.number ≡ length records
IsNextOf records (ruling.Broken parts) = Unit {0}
IsNextOf records ruling.Nothing = Unit {0}
