use Rattle.std.proofs.Common.{◌≡◌, ◌+◌, ◌<◌, ◌≤◌, ℕ, drop, map}
use Rattle.std.specs.Prelude.{vec_len, slice_index}
use Rattle.lucy_replica.specs.Answering.{answer_of}
use Rattle.lucy_audit.specs.Tallies.{accepted_at}
use Rattle.lucy_audit.proofs.tallies.counts_of.Given as goal

abbrev pub invariant-loop-reply : goal.invariant-loop-reply
invariant-loop-reply l = record {
  many : vec_len l.counts ≡ l.records;
  few : (number : ℕ) → number < l.records → slice_index l.counts.items number ≤ l.reply-index;
  each : (number : ℕ) → number < l.records
      → slice_index l.counts.items number + accepted_at number (map answer_of (drop l.reply-index l.replies)) ≡ accepted_at number (map answer_of l.replies);
}
