use Rattle.std.proofs.Common.{◌≡◌, ◌++◌, drop}
use Rattle.lucy_make.specs.PlanTexts.{add_name, each_place}
use Rattle.lucy_make.proofs.plan_text.write_add_names.Given as goal

abbrev pub invariant-loop-place : goal.invariant-loop-place
invariant-loop-place l = l.out.items ++ each_place add_name l.place (drop l.place l.heights) ≡ l.fn.out.items ++ each_place add_name 0 l.heights
