use Rattle.std.proofs.Common.{◌≡◌, ◌≤◌, true, ℤ, List, [], ◌++◌, length}
use Rattle.lucy_plan.specs.Calls.{are_arguments}
use Rattle.lucy_session.specs.Expressions.{arguments_on}
use Rattle.lucy_session.proofs.expressions.read_arguments.Given as goal

abbrev pub invariant-loop-params : goal.invariant-loop-params
invariant-loop-params l =
    (arguments_on l.arguments l.params l.cursor ≡ arguments_on [] l.fn.params l.fn.cursor)
    × ((more : List ℤ) → are_arguments l.params more ≡ true → are_arguments l.fn.params (l.arguments ++ more) ≡ true)
    × (length l.cursor ≤ length l.fn.cursor)

abbrev pub decreases-loop-params : goal.decreases-loop-params
decreases-loop-params l = length l.params
