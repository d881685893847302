use Rattle.std.proofs.Common.{◌≡◌, true, drop, length}
use Rattle.std.specs.List.{list_all}
use Rattle.lucy_plan.specs.Calls.{first_holding}
use Rattle.lucy_plan.specs.Plans.{is_branch}
use Rattle.lucy_plan.proofs.calls.run_branches.Given as goal

abbrev pub invariant-loop-branch : goal.invariant-loop-branch
invariant-loop-branch l = (l.out ≡ l.state) × (first_holding (drop l.branch-index l.branches) l.state l.arguments ≡ first_holding l.branches l.state l.arguments) × (list_all (is_branch (length l.state) (length l.arguments)) (drop l.branch-index l.branches) ≡ true)
