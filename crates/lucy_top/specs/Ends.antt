-- How a call ends, for every command.
use Rattle.std.specs.Prelude.{◌≡◌, ◌⊎◌, ℕ, List, ◌++◌, Option, Result, Ok, Err}
use Rattle.std.specs.Io.KnownBytes.{Appends}
use Rattle.lucy_io.specs.Faults.{Rose}
use Rattle.lucy_io.specs.Inputs.{Entry, Told}
use Rattle.lucy_io.specs.Pieces.{IsProperFront}
use Rattle.lucy_top.specs.Script.{Script, Ran, RanPart}
use Rattle.lucy_top.specs.declared.said.Said.{Said}
use Rattle.lucy_top.specs.declared.said.Stop.{Stop}
use Rattle.lucy_top.specs.declared.said.Stop.TheVariants as stops

-- what a command's function answers
abbrev pub FollowsBy : Script → Option Told → List Entry → Result Said Stop → Type 0
FollowsBy script told added (Ok s) = Ran script told added s.status s.text.items
FollowsBy script told added (Err (stops.Ended s)) = Ran script told added s.status s.text.items
FollowsBy script told added (Err stops.OutOfMemory) = RanPart script told added

pub record Follows (script : Script) (told : Option Told) (old new : List Entry) (result : Result Said Stop) : Type 0 where
  pub added : List Entry
  pub journal : new ≡ old ++ added
  pub answer : FollowsBy script told added result

-- the whole text was written, and the status is the command's own
pub record Whole (script : Script) (told : Option Told) (added : List Entry) (held_old held_new : Option (List ℕ)) (status : ℕ) : Type 0 where
  pub text : List ℕ
  pub ran : Ran script told added status text
  pub written : Appends held_old held_new text

-- a write failed: the status is 6, the sink's count rose, and a proper front of the text was written
pub record CutOff (script : Script) (told : Option Told) (added : List Entry) (held_old held_new : Option (List ℕ)) (faults_old faults_new status : ℕ) : Type 0 where
  pub status_is : status ≡ 6
  pub meant : ℕ
  pub text : List ℕ
  pub front : List ℕ
  pub ran : Ran script told added meant text
  pub is_front : IsProperFront front text
  pub written : Appends held_old held_new front
  pub rose : Rose faults_old faults_new

-- want of memory: the status is 7, and nothing was written
pub record NoMemory (script : Script) (told : Option Told) (added : List Entry) (held_old held_new : Option (List ℕ)) (status : ℕ) : Type 0 where
  pub status_is : status ≡ 7
  pub ran : RanPart script told added
  pub unwritten : held_new ≡ held_old

-- a whole call
pub record Ends (script : Script) (told : Option Told) (old new : List Entry) (held_old held_new : Option (List ℕ)) (faults_old faults_new status : ℕ) : Type 0 where
  pub added : List Entry
  pub journal : new ≡ old ++ added
  pub way : Whole script told added held_old held_new status ⊎ CutOff script told added held_old held_new faults_old faults_new status ⊎ NoMemory script told added held_old held_new status
