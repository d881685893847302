use Rattle.std.proofs.Common.{◌≡◌, ◌++◌, ◌+◌, drop}
use Rattle.lucy_make.specs.PlanTexts.{more_below}
use Rattle.lucy_make.proofs.plan_text.write_more_below.Given as goal

abbrev pub invariant-loop-place : goal.invariant-loop-place
invariant-loop-place l = l.out.items ++ more_below (l.place + 1) (drop l.place l.gaps) ≡ l.fn.out.items ++ more_below 1 l.gaps
