-- What is true of each phase of a reading.
use Rattle.std.specs.Prelude.{◌≤◌, ◌^◌, Option, Some, None}
use Rattle.lucy_cert.specs.declared.reader.Phase.{Phase}
use Rattle.lucy_cert.specs.declared.reader.Phase.TheVariants.{TooLong, Going}

-- no more lines than bytes, and no more bytes than the limit
abbrev pub IsFew : {T : Type 0} → Phase T → Type 0
IsFew TooLong = Unit {0}
IsFew (Going n s) = (s.lines ≤ n) × (n ≤ 2 ^ 26)

abbrev pub IsFewOr : {T : Type 0} → Option (Phase T) → Type 0
IsFewOr None = Unit {0}
IsFewOr (Some p) = IsFew p
