-- How a change is decided.
use Rattle.std.specs.Prelude.{◌≡◌, ◌⊎◌, ℤ, Bool, false, IsTrue, is_some, if◌then◌else◌, List, Option, Some, None, refl}
use Rattle.std.specs.Coded.{Coded, code_by, coded⊎, coded_list}
use Rattle.std.proofs.Common.{inl, inr}
use base.Stored.{coded_unit}
use Rattle.lucy_plan.specs.Segments.{is_whole, IsWhole, first_segment}
use Rattle.lucy_plan.specs.declared.parts.Call.{Call}
use Rattle.lucy_plan.specs.declared.parts.PlanParts.{PlanParts}
use Rattle.lucy_epochs.specs.declared.causes.By.{By}
use Rattle.lucy_epochs.specs.Records.{Record, record_code, next_opening, next_record}
use Rattle.lucy_epochs.specs.Contributions.{Contribution, contribution_code, trees_of}

-- what is decided from the parts of all replicas
pub data Ruling : Type 0 where
  -- this record is opened
  Opened : (epoch : Record) → Ruling
  -- the wanted call's result on the merge of these parts breaks the invariant
  Broken : (parts : List Contribution) → Ruling
  -- no call is wanted
  Nothing : Ruling

-- what a call makes of the merge of the parts, all of this record, satisfies the invariant
abbrev pub opens : Record → List Contribution → Call → Bool
opens epoch parts call = is_whole epoch.plan (next_opening epoch (trees_of parts) call)

-- it breaks the invariant
abbrev pub BreaksOn : Record → List Contribution → Call → Type 0
BreaksOn epoch parts call = opens epoch parts call ≡ false

-- the ruling on the parts of all replicas, all of this record: on the call that is wanted, if one is, with the name that a record will give it
abbrev pub rule : Record → List Contribution → Option (Call × By) → Ruling
rule epoch parts None = Nothing
rule epoch parts (Some (call, by)) = if opens epoch parts call then Opened (next_record epoch (trees_of parts) call by) else Broken parts

-- each state that satisfies the plan's invariant is in one of its segments
abbrev pub IsCovered : PlanParts → Type 0
IsCovered plan = (state : List ℤ) → IsWhole plan state → IsTrue (is_some (first_segment plan state))

-- ---- how a ruling is told by numbers

-- the parts of a ruling, by its kind
abbrev pub Told : Type 0
Told = Record ⊎ (List Contribution ⊎ Unit {0})

abbrev pub told : Ruling → Told
told (Opened epoch) = inl epoch
told (Broken parts) = inr (inl parts)
told Nothing = inr (inr tt)

abbrev pub ruling_of_told : Told → Ruling
ruling_of_told (inl epoch) = Opened epoch
ruling_of_told (inr (inl parts)) = Broken parts
ruling_of_told (inr (inr _)) = Nothing

pub ruling-told : (ruling : Ruling) → ruling_of_told (told ruling) ≡ ruling
ruling-told (Opened epoch) = refl
ruling-told (Broken parts) = refl
ruling-told Nothing = refl

abbrev pub ruling_code : Coded Ruling
ruling_code = code_by Told (coded⊎ record_code (coded⊎ (coded_list contribution_code) coded_unit)) told ruling_of_told ruling-told
