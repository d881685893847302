use Rattle.std.proofs.Common.{◌≡◌, map, length}
use Rattle.lucy_replica.specs.Answering.{answer_of}
use Rattle.lucy_audit.specs.Tallies.{IsTally}
use Rattle.lucy_audit.proofs.Summing.{IsSumBefore}
use Rattle.lucy_audit.proofs.tallies.tally_of.Given as goal

abbrev pub invariant-loop-number : goal.invariant-loop-number
invariant-loop-number l = record {
  long : length l.tally ≡ l.number;
  right : IsTally (map answer_of l.replies) l.tally;
  sum : IsSumBefore (map answer_of l.replies) l.number l.sum;
}
