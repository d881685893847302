use Rattle.std.proofs.Common.{◌≡◌, ◌+◌, ◌≤◌, drop, map}
use Rattle.lucy_replica.specs.Answering.{answer_of}
use Rattle.lucy_top.specs.Drills as drills
use Rattle.lucy_top.proofs.counting.how_many.Given as goal

abbrev pub invariant-loop-reply : goal.invariant-loop-reply
invariant-loop-reply l = record {
  sum : l.count + drills.how_many l.kind (map answer_of (drop l.reply-index l.replies)) ≡ drills.how_many l.kind (map answer_of l.replies);
  few : l.count ≤ l.reply-index;
}
