use Rattle.std.proofs.Common.{◌≡◌, [], drop}
use Rattle.lucy_make.specs.Work.{arguments}
use Rattle.lucy_make.proofs.works.draw_arguments.Given as goal

abbrev pub invariant-loop-limits : goal.invariant-loop-limits
invariant-loop-limits l = arguments (drop l.limits-index l.params) l.found l.chaos ≡ arguments l.params [] l.fn.chaos
