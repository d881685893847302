-- The numbers of a line.
use Rattle.std.specs.Prelude.{ℕ, ◌^◌, nat_lt, min, ℤ, int_le, ◌&&◌, if◌then◌else◌, List, Option, Some, None, option_map, bytes_eq, Ok, Err}
use Rattle.lucy_io.specs.Decimals.{natural_of, number_of}
use Rattle.lucy_calls.specs.declared.error.CallsError.{CallsError}
use Rattle.lucy_calls.specs.declared.error.CallsError.TheVariants.{BadLine, BadReplica}
use Rattle.lucy_io.specs.Outcomes.{Outcome}

-- A canonical decimal without a sign. Each number of 2 ^ 64 or more is read as 2 ^ 64: none of them is taken anywhere.
abbrev pub natural : List ℕ → Option ℕ
natural text = option_map (λ n. min n (2 ^ 64)) (natural_of text)

abbrev pub or_bad_line : {A : Type 0} → ℕ → Option A → Outcome CallsError A
or_bad_line n None = Err (BadLine n)
or_bad_line n (Some x) = Ok x

-- a number in the line with the number n
unfoldable pub number : ℕ → List ℕ → Outcome CallsError ℕ
number n text = or_bad_line n (natural text)

-- a number behind a word, which is to be this one
unfoldable pub number_behind : List ℕ → ℕ → List ℕ → List ℕ → Outcome CallsError ℕ
number_behind wanted n word digits = if bytes_eq word wanted then number n digits else Err (BadLine n)

-- a replica's number
unfoldable pub below : ℕ → ℕ → ℕ → Outcome CallsError ℕ
below replicas n replica = if nat_lt replica replicas then Ok replica else Err (BadReplica n)

abbrev pub where_between : ℤ → ℤ → Option ℤ → Option ℤ
where_between lo hi None = None
where_between lo hi (Some z) = if int_le lo z && int_le z hi then Some z else None

-- a canonical decimal from lo to hi
unfoldable pub between : ℤ → ℤ → List ℕ → Option ℤ
between lo hi text = where_between lo hi (number_of text)
