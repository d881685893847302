-- What a command asks for, in order, and what it answers. The order of causes is the order of the parts of a script: the words, then
-- each input fetched, measured and read before the next one, then the verdict.
use Rattle.std.specs.Prelude.{◌≡◌, ◌⊎◌, ℕ, ◌<◌, ◌≤◌, List, [], ◌∷◌, length, Option, Some, None, Ok, Err, IfSome, IsSomeAnd}
use Rattle.lucy_io.specs.Inputs.{Entry, Told}
use Rattle.lucy_io.specs.declared.inputs.Ending.{Ending}
use Rattle.lucy_io.specs.declared.inputs.Ending.TheVariants.{Given, Absent, Failed}
use Rattle.lucy_reading.specs.Faults.{too_long}
use Rattle.lucy_reading.specs.Outcomes.{Outcome}
use Rattle.lucy_top.specs.Verdicts.{Verdict, exactly, refused, Says}
use Rattle.lucy_report.specs.FaultLines.{no_input, read_fault}

-- a command's course: it ends, or it asks for an input of at most so many bytes and goes on by what they are
pub data Script : Type 0 where
  ends : Verdict → Script
  asks : (name : List ℕ) (most : ℕ) (next : List ℕ → Script) → Script

-- goes on by what was read, or ends with the line that tells why it is refused
unfoldable pub takes : {X : Type 0} → Outcome X → (X → Script) → Script
takes (Ok x) next = next x
takes (Err line) next = ends (exactly refused line)

-- these are the bytes of the input
pub record Gave (told : Option Told) (name : List ℕ) (most : ℕ) (bytes : List ℕ) : Type 0 where
  pub told_so : IfSome told (λ t. t name ≡ Some bytes)
  pub within : length bytes ≤ most

-- the input passes its limit, and nothing more is asked for
pub record IsTooLong (told : Option Told) (name : List ℕ) (most : ℕ) (rest : List Entry) (status : ℕ) (text : List ℕ) : Type 0 where
  pub last : rest ≡ []
  pub told_so : IfSome told (λ t. IsSomeAnd (t name) (λ bytes. most < length bytes))
  pub status_is : status ≡ 3
  pub text_is : text ≡ too_long name most

-- there is no such input, and nothing more is asked for
pub record IsAbsent (told : Option Told) (name : List ℕ) (rest : List Entry) (status : ℕ) (text : List ℕ) : Type 0 where
  pub last : rest ≡ []
  pub told_so : IfSome told (λ t. t name ≡ None)
  pub status_is : status ≡ 4
  pub text_is : text ≡ no_input name

-- the input could not be read, and nothing more is asked for
pub record HasFailed (name : List ℕ) (rest : List Entry) (status : ℕ) (text : List ℕ) : Type 0 where
  pub last : rest ≡ []
  pub status_is : status ≡ 5
  pub text_is : text ≡ read_fault name

abbrev pub OnEnding : Ending → Type 0 → Type 0 → Type 0 → Type 0
OnEnding Given given absent failed = given
OnEnding Absent given absent failed = absent
OnEnding Failed given absent failed = failed

-- A whole call: these entries were added to the journal, and this status and text came out.
abbrev pub Ran : Script → Option Told → List Entry → ℕ → List ℕ → Type 0
Ran (ends v) told [] status text = Says v status text
Ran (ends v) told (e ∷ es) status text = ⊥
Ran (asks name most next) told [] status text = ⊥
Ran (asks name most next) told (e ∷ es) status text = (e.name ≡ name) × OnEnding e.ending
    (((bytes : List ℕ) × Gave told name most bytes × Ran (next bytes) told es status text) ⊎ IsTooLong told name most es status text)
    (IsAbsent told name es status text)
    (HasFailed name es status text)

-- A call that stopped for want of memory: these entries were added.
abbrev pub RanPart : Script → Option Told → List Entry → Type 0
RanPart script told [] = Unit {0}
RanPart (ends v) told (e ∷ es) = ⊥
RanPart (asks name most next) told (e ∷ es) = (e.name ≡ name) × ((es ≡ []) ⊎ ((e.ending ≡ Given) × ((bytes : List ℕ) × Gave told name most bytes × RanPart (next bytes) told es)))
