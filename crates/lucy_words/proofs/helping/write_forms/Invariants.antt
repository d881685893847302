use Rattle.std.proofs.Common.{◌≡◌, ◌++◌, length}
use Rattle.lucy_words.specs.Grammar.{rows_of}
use Rattle.lucy_words.specs.Help.{lines_of}
use Rattle.lucy_words.proofs.helping.write_forms.Given as goal

abbrev pub invariant-loop-forms : goal.invariant-loop-forms
invariant-loop-forms l = l.out.items ++ lines_of (rows_of l.forms) ≡ l.fn.out.items ++ lines_of (rows_of l.initial.forms)

abbrev pub decreases-loop-forms : goal.decreases-loop-forms
decreases-loop-forms l = length l.forms
