-- One input, as a command fetches and reads it. Each clause says how any command goes on from there, so that a command's steps join by
-- themselves.
use Rattle.std.specs.Prelude.{◌≡◌, ℕ, ◌^◌, List, [], ◌∷◌, ◌++◌, Option, Result, Ok, Err, IsErrAnd, string_bytes}
use Rattle.std.specs.Global.{Vec}
use Rattle.lucy_io.specs.Inputs.{Entry, entry, Told}
use Rattle.lucy_io.specs.declared.inputs.Ending.TheVariants.{Given}
use Rattle.lucy_plan.specs.declared.parts.PlanParts.{PlanParts}
use Rattle.lucy_reading.specs.Outcomes.{Outcome}
use Rattle.lucy_reading.specs.declared.refusal.Refusal.{Refusal}
use Rattle.lucy_reading.specs.declared.refusal.Refusal.TheVariants.{Bad, OutOfMemory}
use Rattle.lucy_top.specs.Ends.{Follows}
use Rattle.lucy_top.specs.Reading.{plan_said}
use Rattle.lucy_top.specs.Script.{Script, asks, takes, ends, Gave}
use Rattle.lucy_top.specs.Verdicts.{Verdict}
use Rattle.lucy_top.specs.declared.said.Said.{Said}
use Rattle.lucy_top.specs.Stops.{StopsWith}
use Rattle.lucy_top.specs.declared.said.Stop.{Stop}
use Rattle.lucy_top.specs.declared.said.Stop.TheVariants as stops

-- Where bytes came, a command that asks for them goes on with them; else it has ended so.
abbrev pub Fetches : List ℕ → ℕ → Option Told → List Entry → List Entry → Result (Vec ℕ) Stop → Type 0
Fetches name most told old new (Ok bytes) = (next : List ℕ → Script) (last : List Entry) (r : Result Said Stop) → Follows (next bytes.items) told new last r → Follows (asks name most next) told old last r
Fetches name most told old new (Err e) = (next : List ℕ → Script) → Follows (asks name most next) told old new (Err e)

-- Where a text was read, a command goes on with what it says, seen by view; else it has ended so.
abbrev pub Takes : {X Y : Type 0} → (X → Y) → Outcome Y → Result X Stop → Type 0
Takes {X} {Y} view read (Ok x) = (next : Y → Script) (told : Option Told) (old last : List Entry) (r : Result Said Stop) → Follows (next (view x)) told old last r → Follows (takes read next) told old last r
Takes {X} {Y} view read (Err e) = (next : Y → Script) (told : Option Told) (old : List Entry) → Follows (takes read next) told old old (Err e)

-- Where an input was fetched and read, a command that asks for it goes on with what it says, seen by view; else it has ended so.
abbrev pub Loads : {X Y : Type 0} → (X → Y) → ((Y → Script) → Script) → Option Told → List Entry → List Entry → Result X Stop → Type 0
Loads {X} {Y} view asked told old new (Ok x) = (next : Y → Script) (last : List Entry) (r : Result Said Stop) → Follows (next (view x)) told new last r → Follows (asked next) told old last r
Loads {X} {Y} view asked told old new (Err e) = (next : Y → Script) → Follows (asked next) told old new (Err e)

-- an input that is refused ends the command with its line
abbrev pub OrRefused : {X : Type 0} → Result X Refusal → Result X Stop → Type 0
OrRefused (Ok x) result = result ≡ Ok x
OrRefused (Err (Bad line)) result = IsErrAnd result (StopsWith 3 (string_bytes line))
OrRefused (Err OutOfMemory) result = result ≡ Err stops.OutOfMemory

-- The end of a command, whatever was asked for before, unless memory ran out.
abbrev pub Concludes : Verdict → Result Said Stop → Type 0
Concludes v result = (told : Option Told) (old : List Entry) → Follows (ends v) told old old result

-- the input of this name was given, nothing else was asked for, and it says this plan
pub record PlanIsGiven (told : Option Told) (name : List ℕ) (plan : PlanParts) (old new : List Entry) : Type 0 where
  pub journal : new ≡ old ++ entry name Given ∷ []
  pub bytes : List ℕ
  pub gave : Gave told name (2 ^ 20) bytes
  pub says : plan_said name bytes ≡ Ok plan
