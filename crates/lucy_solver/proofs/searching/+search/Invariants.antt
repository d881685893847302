use Rattle.std.proofs.Common.{◌+◌, ◌*◌}
use Rattle.lucy_solver.specs.Spans.{span}
use Rattle.lucy_solver.specs.Shows.{AreShown, GoesOn}
use Rattle.lucy_solver.proofs.searching.+search.Given as goal

abbrev pub decreases-search : goal.decreases-search
decreases-search l = 6 * (l.deep + span l.bounds.now) + 5

abbrev pub decreases-proposed : goal.decreases-proposed
decreases-proposed l = 6 * (l.deep + span l.bounds.now) + 4

abbrev pub decreases-round : goal.decreases-round
decreases-round l = 6 * (l.deep + span l.bounds.now) + 3

abbrev pub decreases-followed : goal.decreases-followed
decreases-followed l = 6 * (l.deep + span l.bounds.now) + 2

abbrev pub decreases-halved : goal.decreases-halved
decreases-halved l = 6 * (l.deep + span l.bounds.now) + 2

abbrev pub decreases-split : goal.decreases-split
decreases-split l = 6 * (l.deep + span l.bounds.now) + 1

abbrev pub decreases-other_half : goal.decreases-other_half
decreases-other_half l = 6 * (l.deep + span l.bounds.now) + 6

abbrev pub invariant-proposed-loop : goal.invariant-proposed-loop
invariant-proposed-loop l = AreShown l.formula l.steps.items × GoesOn l.fn.steps.items l.steps.items
