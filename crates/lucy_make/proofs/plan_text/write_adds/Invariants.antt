use Rattle.std.proofs.Common.{◌≡◌, ◌++◌, drop}
use Rattle.lucy_make.specs.PlanTexts.{add_text, each_place}
use Rattle.lucy_make.proofs.plan_text.write_adds.Given as goal

abbrev pub invariant-loop-place : goal.invariant-loop-place
invariant-loop-place l = l.out.items ++ each_place add_text l.place (drop l.place l.heights) ≡ l.fn.out.items ++ each_place add_text 0 l.heights
