-- A source of bytes in memory, as callers see it.
use Rattle.std.specs.List.{list_any}
use Rattle.std.specs.Prelude.{ℕ, ◌==◌, Bool, if◌then◌else◌, List, length, min}
use Rattle.lucy_io.specs.Faults.{next_count}

-- the bytes left, the most that one call gives, the numbers of the calls that fail, the calls so far, and the faults
pub record SourceInMemory : Type 0 where
  pub left : List ℕ
  pub most : ℕ
  pub failing : List ℕ
  pub calls : ℕ
  pub faults : ℕ

-- the next call is to fail
abbrev pub source_fails : SourceInMemory → Bool
source_fails s = list_any (λ n. n == s.calls) s.failing

-- how many bytes a call takes into a buffer of that length
abbrev pub taken_of : SourceInMemory → ℕ → ℕ
taken_of s room = min (min (length s.left) s.most) room

-- the count of faults after a call
abbrev pub source_faults : SourceInMemory → ℕ
source_faults s = if source_fails s then next_count s.faults else s.faults
