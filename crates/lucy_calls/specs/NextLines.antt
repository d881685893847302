-- The next line of those that are left.
use Rattle.std.specs.Prelude.{◌≡◌, ℕ, Ok, Err}
use Rattle.lucy_calls.specs.declared.error.CallsError.{CallsError}
use Rattle.lucy_calls.specs.declared.error.CallsError.TheVariants.{BadLine}
use Rattle.lucy_calls.specs.declared.lines.Line.{Line}
use Rattle.lucy_calls.specs.declared.lines.Lines.{Lines}
use Rattle.lucy_calls.specs.Lines.{Listing, over, line, listing}
use Rattle.lucy_io.specs.Outcomes.{Outcome}

abbrev pub left : Lines → Listing
left lines = listing lines.number lines.rest.now

-- the next line was taken, or none is left
abbrev pub IsNext : Listing → Outcome CallsError (Line × Lines) → Type 0
IsNext before (Ok p) = before ≡ line p.0.number p.0.bytes.now (left p.1)
IsNext before (Err e) = (n : ℕ) × (before ≡ over n) × (e ≡ BadLine n)
