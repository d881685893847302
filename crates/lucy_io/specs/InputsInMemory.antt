-- Inputs that are held in memory, as callers see them.
use Rattle.std.specs.List.{list_any}
use Rattle.std.specs.Prelude.{◌≡◌, ℕ, ◌==◌, Bool, true, false, bytes_eq, string_bytes, if◌then◌else◌, List, [], ◌∷◌, Option, None, Some, Result, Ok, Err, String, Vec}
use Rattle.std.specs.Global.{Global, Vec as GlobalVec}
use Rattle.lucy_io.specs.Faults.{next_count}
use Rattle.lucy_io.specs.Inputs.{Entry}
use Rattle.lucy_io.specs.declared.inputs.FetchError.{FetchError}
use Rattle.lucy_io.specs.declared.inputs.FetchError.TheVariants.{Failed, OutOfMemory}

-- names with their bytes, the numbers of the calls that fail, how many calls were answered, and the journal
pub record InputsInMemory : Type 0 where
  pub pairs : List (List ℕ × List ℕ)
  pub failing : List ℕ
  pub calls : ℕ
  pub journal : List Entry

abbrev pub pair_of : String Global × Vec ℕ Global → List ℕ × List ℕ
pair_of p = (string_bytes p.0, p.1.items)

-- the bytes of the first pair of that name
abbrev pub input_of : List (List ℕ × List ℕ) → List ℕ → Option (List ℕ)
input_of [] name = None
input_of (p ∷ ps) name = if bytes_eq p.0 name then Some p.1 else input_of ps name

-- the call of that number is to fail
abbrev pub fails_at : List ℕ → ℕ → Bool
fails_at failing call = list_any (λ n. n == call) failing

-- which call fails, and that a call which was answered is counted; want of memory leaves all as it was
abbrev pub Answers : InputsInMemory → InputsInMemory → Result (Option (GlobalVec ℕ)) FetchError → Type 0
Answers old new (Ok answer) = (fails_at old.failing old.calls ≡ false) × (new.calls ≡ next_count old.calls)
Answers old new (Err Failed) = (fails_at old.failing old.calls ≡ true) × (new.calls ≡ next_count old.calls)
Answers old new (Err OutOfMemory) = new ≡ old
