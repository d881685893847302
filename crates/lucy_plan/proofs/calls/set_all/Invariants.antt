use Rattle.std.proofs.Common.{◌≡◌, true, drop, length}
use Rattle.std.specs.List.{list_all}
use Rattle.lucy_plan.specs.Calls.{with_sets}
use Rattle.lucy_plan.specs.Plans.{is_set}
use Rattle.lucy_plan.proofs.calls.set_all.Given as goal

abbrev pub invariant-loop-change : goal.invariant-loop-change
invariant-loop-change l = (length l.out ≡ length l.state) × (with_sets (drop l.change-index l.sets) l.state l.arguments l.out ≡ with_sets l.sets l.state l.arguments l.fn.out) × (list_all (is_set (length l.state) (length l.arguments)) (drop l.change-index l.sets) ≡ true)
