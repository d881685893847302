use Rattle.std.proofs.Common.{◌≡◌, ◌-◌, []}
use Rattle.lucy_make.specs.Drawing.{many}
use Rattle.lucy_make.specs.Work.{call}
use Rattle.lucy_make.proofs.works.draw_calls.Given as goal

abbrev pub invariant-loop-place : goal.invariant-loop-place
invariant-loop-place l = many (call l.txns) (l.count - l._place) l.calls l.chaos ≡ many (call l.txns) l.count [] l.fn.chaos
