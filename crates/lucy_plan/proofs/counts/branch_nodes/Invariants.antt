use Rattle.std.proofs.Common.{◌≡◌, min, take}
use Rattle.std.specs.Prelude.{sum_by}
use Rattle.lucy_plan.specs.Counts.{nodes_of, most_told}
use Rattle.lucy_plan.proofs.counts.branch_nodes.Given as goal

abbrev pub invariant-loop-branch : goal.invariant-loop-branch
invariant-loop-branch l = l.count ≡ min (sum_by (λ branch. nodes_of branch.when) (take l.branch-index l.branches)) most_told
