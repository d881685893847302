use Rattle.std.proofs.Common.{◌≡◌, true, ℤ, List, [], ◌++◌, length}
use Rattle.lucy_plan.specs.Calls.{are_arguments}
use Rattle.lucy_walks.specs.Drawing.{drawn_arguments}
use Rattle.lucy_walks.proofs.drawing.draw_arguments.Given as goal

abbrev pub invariant-loop-params : goal.invariant-loop-params
invariant-loop-params l =
    (drawn_arguments l.arguments l.params l.chaos ≡ drawn_arguments [] l.fn.params l.fn.chaos)
    × ((more : List ℤ) → are_arguments l.params more ≡ true → are_arguments l.fn.params (l.arguments ++ more) ≡ true)

abbrev pub decreases-loop-params : goal.decreases-loop-params
decreases-loop-params l = length l.params
