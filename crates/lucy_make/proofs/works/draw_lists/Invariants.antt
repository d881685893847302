use Rattle.std.proofs.Common.{◌≡◌, ◌-◌, []}
use Rattle.lucy_make.specs.Drawing.{many}
use Rattle.lucy_make.specs.Work.{calls_of}
use Rattle.lucy_make.proofs.works.draw_lists.Given as goal

abbrev pub invariant-loop-replica : goal.invariant-loop-replica
invariant-loop-replica l = many (calls_of l.txns l.count) (l.replicas - l._replica) l.lists l.chaos ≡ many (calls_of l.txns l.count) l.replicas [] l.fn.chaos
