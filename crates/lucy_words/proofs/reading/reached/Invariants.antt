use Rattle.std.proofs.Common.{◌≡◌, length, map, max}
use Rattle.std.specs.String.{string_bytes}
use Rattle.lucy_words.specs.Grammar.{reached, rows_of}
use Rattle.lucy_words.proofs.reading.reached.Given as goal

abbrev pub invariant-loop-forms : goal.invariant-loop-forms
invariant-loop-forms l = max l.most (reached (rows_of l.forms) (map string_bytes l.words)) ≡ reached (rows_of l.initial.forms) (map string_bytes l.words)

abbrev pub decreases-loop-forms : goal.decreases-loop-forms
decreases-loop-forms l = length l.forms
