use Rattle.std.proofs.Common.{◌≡◌, [], map, length}
use Rattle.lucy_calls.specs.Work.{arguments_of}
use Rattle.lucy_calls.proofs.work_lines.read_arguments.Given as goal

abbrev pub invariant-loop-params : goal.invariant-loop-params
invariant-loop-params l = arguments_of l.line l.arguments l.params (map (λ t. t.now) l.texts) ≡ arguments_of l.line [] l.fn.params (map (λ t. t.now) l.fn.texts)

abbrev pub decreases-loop-params : goal.decreases-loop-params
decreases-loop-params l = length l.params
