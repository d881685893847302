use Rattle.std.proofs.Common.{◌≡◌, length, map}
use Rattle.std.specs.String.{string_bytes}
use Rattle.lucy_words.specs.Grammar.{first_form, rows_of}
use Rattle.lucy_words.proofs.reading.first_form.Given as goal

abbrev pub invariant-loop-forms : goal.invariant-loop-forms
invariant-loop-forms l = first_form (rows_of l.forms) (map string_bytes l.words) ≡ first_form (rows_of l.initial.forms) (map string_bytes l.words)

abbrev pub decreases-loop-forms : goal.decreases-loop-forms
decreases-loop-forms l = length l.forms
