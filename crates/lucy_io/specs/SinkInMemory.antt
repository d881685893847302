-- A sink of bytes in memory, as callers see it.
use Rattle.std.specs.List.{list_any}
use Rattle.std.specs.Prelude.{ℕ, ◌==◌, ◌||◌, Bool, if◌then◌else◌, List, min}
use Rattle.lucy_io.specs.Faults.{next_count}

-- the bytes held, how many bytes are free, the most that one call takes, the numbers of the calls that fail, the calls
-- so far, and the faults
pub record SinkInMemory : Type 0 where
  pub held : List ℕ
  pub free : ℕ
  pub most : ℕ
  pub failing : List ℕ
  pub calls : ℕ
  pub faults : ℕ

-- the next call fails: its number is among those that fail, or no byte is free
abbrev pub sink_fails : SinkInMemory → Bool
sink_fails s = list_any (λ n. n == s.calls) s.failing || s.free == 0

-- how many bytes of a piece of that length a call takes
abbrev pub given_of : SinkInMemory → ℕ → ℕ
given_of s size = min (min s.free s.most) size

-- the count of faults after a call
abbrev pub sink_faults : SinkInMemory → ℕ
sink_faults s = if sink_fails s then next_count s.faults else s.faults
