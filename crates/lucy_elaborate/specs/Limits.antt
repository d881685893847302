-- Places below a limit.
use Rattle.std.specs.Prelude.{ℕ, ◌+◌, nat_lt, if◌then◌else◌, Result, Ok, Err}
use Rattle.lucy_plan.specs.declared.refusal.What.{What}
use Rattle.lucy_gather.specs.declared.error.ElabError.{ElabError}
use Rattle.lucy_gather.specs.declared.error.ElabError.TheVariants as error

-- the place behind so many others; one more than the most is too many
abbrev pub next_place : ℕ → ℕ → What → Result ℕ ElabError
next_place count most of = if nat_lt count most then Ok count else Err (error.Limit of (most + 1))
