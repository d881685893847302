use Rattle.std.proofs.Common.{◌≡◌, ◌++◌, drop, map}
use Rattle.lucy_replica.specs.Answering.{answer_of}
use Rattle.lucy_report.specs.OutcomeTexts.{reply_lines}
use Rattle.lucy_report.proofs.outcome_lines.write_replies.Given as goal

abbrev pub invariant-loop-place : goal.invariant-loop-place
invariant-loop-place l =
    l.out.items ++ reply_lines l.number l.place (map answer_of (drop l.place l.replies)) ≡ l.fn.out.items ++ reply_lines l.number 0 (map answer_of l.replies)
