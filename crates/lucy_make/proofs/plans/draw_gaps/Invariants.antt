use Rattle.std.proofs.Common.{◌≡◌, ◌-◌, []}
use Rattle.lucy_make.specs.Drawing.{many}
use Rattle.lucy_make.specs.Plans.{gap}
use Rattle.lucy_make.proofs.plans.draw_gaps.Given as goal

abbrev pub invariant-loop-place : goal.invariant-loop-place
invariant-loop-place l = many gap (l.size - 1 - l._place) l.gaps.items l.chaos ≡ many gap (l.size - 1) [] l.fn.chaos
