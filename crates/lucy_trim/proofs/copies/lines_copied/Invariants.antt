use Rattle.std.proofs.Common.{◌≡◌, take}
use Rattle.lucy_trim.proofs.copies.lines_copied.Given as goal

abbrev pub invariant-loop-line : goal.invariant-loop-line
invariant-loop-line l = l.copies ≡ take l.line-index l.lines
