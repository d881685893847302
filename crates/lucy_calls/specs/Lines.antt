-- The lines of a text.
use Rattle.std.specs.Prelude.{ℕ, ◌+◌, ◌==◌, nat_lt, ◌&&◌, Bool, true, false, if◌then◌else◌, List, [], ◌∷◌, length, codes, bytes_eq, Ok, Err}
use Rattle.lucy_plan.specs.declared.refusal.What.TheVariants.{Bytes}
use Rattle.lucy_calls.specs.declared.error.CallsError.{CallsError}
use Rattle.lucy_calls.specs.declared.error.CallsError.TheVariants.{BadLine, Limit}
use Rattle.lucy_io.specs.Outcomes.{Outcome, ◌>>=◌}

-- a text of at most so many bytes
unfoldable pub within_bytes : ℕ → List ℕ → Outcome CallsError (Unit {0})
within_bytes most text = if nat_lt most (length text) then Err (Limit Bytes (most + 1)) else Ok tt

-- a byte in front of the first piece
abbrev pub onto : ℕ → List (List ℕ) → List (List ℕ)
onto b [] = (b ∷ []) ∷ []
onto b (p ∷ ps) = (b ∷ p) ∷ ps

-- whether an LF comes next
abbrev pub is_line_end : List ℕ → Bool
is_line_end [] = false
is_line_end (b ∷ bs) = b == 10

-- Each line is ended by an LF. A last line without one is a line. A CR directly before an LF is dropped.
abbrev pub lines_of : List ℕ → List (List ℕ)
lines_of [] = []
lines_of (b ∷ bs) = if b == 10 then [] ∷ lines_of bs else if b == 13 && is_line_end bs then lines_of bs else onto b (lines_of bs)

-- whether a line is skipped: it is empty, or begins with `#`
abbrev pub is_skipped : List ℕ → Bool
is_skipped [] = true
is_skipped (b ∷ bs) = b == 35

-- The lines that are not skipped, each with its number, and behind them the number that a further line would have.
pub data Listing : Type 0 where
  over : (number : ℕ) → Listing
  line : (number : ℕ) (bytes : List ℕ) (rest : Listing) → Listing

-- skipped lines count
abbrev pub listed : ℕ → List (List ℕ) → Listing
listed n [] = over n
listed n (l ∷ ls) = if is_skipped l then listed (n + 1) ls else line n l (listed (n + 1) ls)

-- the lines of a text from this number on
abbrev pub listing : ℕ → List ℕ → Listing
listing n text = listed n (lines_of text)

-- what the next line says, which is needed, and the lines behind it
abbrev pub next : {A : Type 0} → (ℕ → List ℕ → Outcome CallsError A) → Listing → Outcome CallsError (A × Listing)
next read (over n) = Err (BadLine n)
next read (line n l rest) = read n l >>= λ x. Ok (x, rest)

-- no further line
abbrev pub at_end : {A : Type 0} → A → Listing → Outcome CallsError A
at_end x (over n) = Ok x
at_end x (line n l rest) = Err (BadLine n)

-- What each line makes of what was read before it, up to the line `end`, which is needed and which is the last.
unfoldable pub up_to_end : {A : Type 0} → (ℕ → List ℕ → A → Outcome CallsError A) → A → Listing → Outcome CallsError A
up_to_end more x (over n) = Err (BadLine n)
up_to_end more x (line n l rest) = if bytes_eq l (codes "end") then at_end x rest else more n l x >>= λ y. up_to_end more y rest
