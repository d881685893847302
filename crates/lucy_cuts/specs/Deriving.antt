-- What the calls that derive answer.
use Rattle.std.specs.Prelude.{◌≡◌, ℕ, Option, Some, None, Result, Ok, Err}
use Rattle.lucy_clauses.specs.Sums.{Form}
use Rattle.lucy_clauses.specs.Lines.{Unjustified, unknown, too_wide, no_conflict}
use Rattle.lucy_cuts.specs.declared.causes.Cause.{Cause}
use Rattle.lucy_cuts.specs.declared.causes.Cause.TheVariants as cause
use Rattle.lucy_cuts.specs.declared.causes.Fault.{Fault}
use Rattle.lucy_cuts.specs.declared.causes.Stop.{Stop}
use Rattle.lucy_cuts.specs.declared.causes.Stop.TheVariants.{Unjustified as At, OutOfMemory}
use Rattle.lucy_cuts.specs.declared.causes.CutError.{CutError}
use Rattle.lucy_cuts.specs.declared.causes.CutError.TheVariants as error

abbrev pub named : Cause → Unjustified
named cause.Unknown = unknown
named cause.TooWide = too_wide
named cause.NoConflict = no_conflict

abbrev pub told : Fault → ℕ × Unjustified
told f = (f.line, named f.cause)

-- the answer is this one, or want of memory
abbrev pub Gives : Result Form Unjustified → Result Form Stop → Type 0
Gives wanted (Ok f) = wanted ≡ Ok f
Gives wanted (Err (At c)) = wanted ≡ Err (named c)
Gives wanted (Err OutOfMemory) = Unit {0}

-- the derivation is justified, or this is its first line that is not; or memory was wanting
abbrev pub Derives : {A : Type 0} → Option (ℕ × Unjustified) → Result A CutError → Type 0
Derives {A} fault (Ok u) = fault ≡ None
Derives {A} fault (Err (error.Unknown n)) = fault ≡ Some (n, unknown)
Derives {A} fault (Err (error.TooWide n)) = fault ≡ Some (n, too_wide)
Derives {A} fault (Err (error.NoConflict n)) = fault ≡ Some (n, no_conflict)
Derives {A} fault (Err error.OutOfMemory) = Unit {0}
