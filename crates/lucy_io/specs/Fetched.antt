-- What a fetch answers, by how the opening of the input ended and by what its reader has left.
use Rattle.std.specs.Prelude.{◌≡◌, ℕ, ◌+◌, List, take, Option, None, Some, Result, Ok, Err, IfSome}
use Rattle.std.specs.Global.{Vec}
use Rattle.std.specs.declared.io.ErrorKind.{ErrorKind}
use Rattle.std.specs.declared.io.ErrorKind.TheVariants as kind
use Rattle.lucy_io.specs.declared.inputs.FetchError.{FetchError}
use Rattle.lucy_io.specs.declared.inputs.FetchError.TheVariants.{Failed, OutOfMemory}

-- what is answered of an input that did not open: there is none, or it failed, or memory was wanting
abbrev pub unopened : ErrorKind → Result (Option (Vec ℕ)) FetchError
unopened kind.NotFound = Ok None
unopened kind.OutOfMemory = Err OutOfMemory
unopened _ = Err Failed

-- why an input that opened could not be read
abbrev pub unread : ErrorKind → FetchError
unread kind.OutOfMemory = OutOfMemory
unread _ = Failed

-- what is answered of an input whose reader has these bytes left: all of them, or one more than the most, or a failure
abbrev pub IsReadUpTo : ℕ → Option (List ℕ) → Result (Option (Vec ℕ)) FetchError → Type 0
IsReadUpTo most left (Ok (Some bytes)) = IfSome left (λ all. bytes.items ≡ take (most + 1) all)
IsReadUpTo most left (Ok None) = ⊥
IsReadUpTo most left (Err e) = Unit {0}
