-- What a fetch answers, and what it writes into the journal.
use Rattle.std.specs.Prelude.{◌≡◌, ℕ, ◌+◌, List, [], ◌∷◌, ◌++◌, take, Option, Some, None, Result, Ok, Err, IsSomeAnd}
use Rattle.std.specs.Global.{Vec}
use Rattle.lucy_io.specs.declared.inputs.Ending.{Ending}
use Rattle.lucy_io.specs.declared.inputs.Ending.TheVariants.{Given, Absent, Failed}
use Rattle.lucy_io.specs.declared.inputs.FetchError.{FetchError}
use Rattle.lucy_io.specs.declared.inputs.FetchError.TheVariants as errors

-- an entry of the journal: the name that was asked for, and how that ended
pub record Entry : Type 0 where
  pub name : List ℕ
  pub ending : Ending

unfoldable pub entry : List ℕ → Ending → Entry
entry name ending = record { name = name; ending = ending }

-- of each name, nothing or its bytes
abbrev pub Told : Type 0
Told = List ℕ → Option (List ℕ)

-- what a fetch appends to the journal: its name and ending, and nothing where memory was wanting
abbrev pub entries_of : List ℕ → Result (Option (Vec ℕ)) FetchError → List Entry
entries_of name (Ok (Some bytes)) = entry name Given ∷ []
entries_of name (Ok None) = entry name Absent ∷ []
entries_of name (Err errors.Failed) = entry name Failed ∷ []
entries_of name (Err errors.OutOfMemory) = []

-- what is fetched of an input that is known: its first bytes, at most one more than asked for, or that there is none
abbrev pub IsFetched : ℕ → Option (List ℕ) → Result (Option (Vec ℕ)) FetchError → Type 0
IsFetched most input (Ok (Some bytes)) = IsSomeAnd input (λ all. bytes.items ≡ take (most + 1) all)
IsFetched most input (Ok None) = input ≡ None
IsFetched most input (Err e) = Unit {0}

-- 1 for a fetch that failed, 0 for any other
abbrev pub failures_of : Ending → ℕ
failures_of Given = 0
failures_of Absent = 0
failures_of Failed = 1

-- the faults that a journal counts: its entries that failed
abbrev pub faults_in : List Entry → ℕ
faults_in [] = 0
faults_in (e ∷ es) = failures_of e.ending + faults_in es

-- 1 where the call failed, 0 where it answered or memory was wanting
abbrev pub failures : Result (Option (Vec ℕ)) FetchError → ℕ
failures (Ok answer) = 0
failures (Err errors.Failed) = 1
failures (Err errors.OutOfMemory) = 0

-- a fetch raises the count of faults by one where it failed, and leaves it in any other case
abbrev pub CountsFailures : Type 0
CountsFailures = (journal : List Entry) (name : List ℕ) (result : Result (Option (Vec ℕ)) FetchError) → faults_in (journal ++ entries_of name result) ≡ faults_in journal + failures result
