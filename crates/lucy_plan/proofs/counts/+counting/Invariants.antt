use Rattle.std.proofs.Common.{◌≡◌, min, take}
use Rattle.std.specs.Prelude.{sum_by}
use Rattle.lucy_plan.specs.Counts.{nodes_of, most_told}
use Rattle.lucy_plan.proofs.counts.+counting.Given as goal

abbrev pub invariant-all_nodes-loop-part : goal.invariant-all_nodes-loop-part
invariant-all_nodes-loop-part l = l.count ≡ min (sum_by nodes_of (take l.part-index l.parts)) most_told
