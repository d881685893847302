use Rattle.std.proofs.Common.{◌≡◌, [], length, replicate}
use Rattle.lucy_calls.specs.Lines.{up_to_end}
use Rattle.lucy_calls.specs.NextLines.{left}
use Rattle.lucy_calls.specs.Work.{with_call}
use Rattle.lucy_calls.proofs.work_lines.read_lists.Given as goal

abbrev pub invariant-loop-lists : goal.invariant-loop-lists
invariant-loop-lists l = record {
  said : up_to_end (with_call l.plan l.replicas) l.lists.items (left l.rest) ≡ up_to_end (with_call l.plan l.replicas) (replicate l.replicas []) (left l.fn.lines);
  even : length l.lists.items ≡ l.replicas;
}

abbrev pub decreases-loop-lists : goal.decreases-loop-lists
decreases-loop-lists l = length l.rest.rest.now
