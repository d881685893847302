-- The text of a command, as it reaches the sink.
use Rattle.std.specs.Prelude.{◌≡◌, ◌⊎◌, ℕ, ◌≤◌, List, Option, Result, Ok, Err}
use Rattle.std.specs.Io.KnownBytes.{Appends}
use Rattle.lucy_io.specs.Faults.{Rose}
use Rattle.lucy_io.specs.Pieces.{IsProperFront}
use Rattle.lucy_top.specs.declared.said.Said.{Said}
use Rattle.lucy_top.specs.declared.said.Stop.{Stop}
use Rattle.lucy_top.specs.declared.said.Stop.TheVariants as stops

-- a write that failed
pub record IsCut (text : List ℕ) (held_old held_new : Option (List ℕ)) (faults_old faults_new status : ℕ) : Type 0 where
  pub status_is : status ≡ 6
  pub front : List ℕ
  pub is_front : IsProperFront front text
  pub written : Appends held_old held_new front
  pub rose : Rose faults_old faults_new

abbrev pub Writes : Said → Option (List ℕ) → Option (List ℕ) → ℕ → ℕ → ℕ → Type 0
Writes s held_old held_new faults_old faults_new status = ((status ≡ s.status) × Appends held_old held_new s.text.items) ⊎ IsCut s.text.items held_old held_new faults_old faults_new status

abbrev pub FinishesBy : Result Said Stop → Option (List ℕ) → Option (List ℕ) → ℕ → ℕ → ℕ → Type 0
FinishesBy (Ok s) held_old held_new faults_old faults_new status = Writes s held_old held_new faults_old faults_new status
FinishesBy (Err (stops.Ended s)) held_old held_new faults_old faults_new status = Writes s held_old held_new faults_old faults_new status
FinishesBy (Err stops.OutOfMemory) held_old held_new faults_old faults_new status = (status ≡ 7) × (held_new ≡ held_old)

pub record Finishes (said : Result Said Stop) (held_old held_new : Option (List ℕ)) (faults_old faults_new status : ℕ) : Type 0 where
  pub by : FinishesBy said held_old held_new faults_old faults_new status
  pub later : faults_old ≤ faults_new
