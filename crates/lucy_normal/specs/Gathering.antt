-- Parts of one joint that are gathered within a list of the other.
use Rattle.std.specs.Prelude.{◌≡◌, ℕ, List, [], ◌∷◌, ◌++◌, length, Result, Ok, Err}
use Rattle.std.specs.declared.alloc.AllocError.{AllocError}
use Rattle.lucy_normal.specs.declared.joints.Joint.{Joint}
use Rattle.lucy_normal.specs.declared.gathering.Gathered.{Gathered}
use Rattle.lucy_normal.specs.declared.gathering.Gathered.TheVariants as gathered
use Rattle.lucy_normal.specs.declared.normals.Normal.{Normal}
use Rattle.lucy_normal.specs.Fronts.{Begins}
use Rattle.lucy_normal.specs.Joints.{list_of}

-- none, or at least two
abbrev pub IsNotOne : List Normal → Type 0
IsNotOne [] = Unit {0}
IsNotOne (p ∷ []) = ⊥
IsNotOne (p ∷ q ∷ ps) = Unit {0}

-- the parts are one list of the joint around, whose own parts stand behind what was there
pub record StandsAlone (joint : Joint) (old flat : List Normal) (start : ℕ) (parts : List Normal) : Type 0 where
  pub rest : List Normal
  pub start_is : start ≡ length old
  pub flat_is : flat ≡ old ++ rest
  pub not_one : IsNotOne rest
  pub parts_are : parts ≡ list_of joint rest ∷ []

-- these parts were gathered within a list of the joint, which was `old` and is `flat`
abbrev pub Gathers : Joint → List Normal → List Normal → Gathered → List Normal → Type 0
Gathers joint old flat (gathered.Parts sides) parts = (flat ≡ old) × (sides ≡ parts)
Gathers joint old flat (gathered.Alone start) parts = StandsAlone joint old flat start parts

-- so they were, or memory was wanted
abbrev pub Gave : Joint → List Normal → List Normal → Result Gathered AllocError → List Normal → Type 0
Gave joint old flat (Ok g) parts = Gathers joint old flat g parts
Gave joint old flat (Err e) parts = Begins old flat

-- the parts were added, or memory was wanted
abbrev pub Added : List Normal → List Normal → Result (Unit {0}) AllocError → List Normal → Type 0
Added old flat (Ok u) parts = flat ≡ old ++ parts
Added old flat (Err e) parts = Begins old flat

-- of all these parts those were gathered that stand in front of others
pub record GathersStill (joint : Joint) (old flat : List Normal) (g : Gathered) (all left : List Normal) : Type 0 where
  pub parts : List Normal
  pub are : Gathers joint old flat g parts
  pub all_are : all ≡ parts ++ left
