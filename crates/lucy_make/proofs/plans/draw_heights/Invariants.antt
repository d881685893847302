use Rattle.std.proofs.Common.{◌≡◌, ◌-◌, []}
use Rattle.lucy_make.specs.Drawing.{many}
use Rattle.lucy_make.specs.Plans.{height}
use Rattle.lucy_make.proofs.plans.draw_heights.Given as goal

abbrev pub invariant-loop-place : goal.invariant-loop-place
invariant-loop-place l = many height (l.size - l._place) l.heights.items l.chaos ≡ many height l.size [] l.fn.chaos
