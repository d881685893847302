use Rattle.std.proofs.Common.{◌≡◌, ◌+◌, ◌≤◌, drop, map}
use Rattle.lucy_replica.specs.Answering.{answer_of}
use Rattle.lucy_replica.specs.Legal as legal
use Rattle.lucy_audit.proofs.counts.accepted_to.Given as goal

abbrev pub invariant-loop-reply : goal.invariant-loop-reply
invariant-loop-reply l = record {
  sum : l.count + legal.accepted_to l.number (map answer_of (drop l.reply-index l.replies)) ≡ legal.accepted_to l.number (map answer_of l.replies);
  few : l.count ≤ l.reply-index;
}
