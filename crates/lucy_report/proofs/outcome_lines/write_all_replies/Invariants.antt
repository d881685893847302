use Rattle.std.proofs.Common.{◌≡◌, ◌++◌, drop, map}
use Rattle.lucy_report.specs.OutcomeTexts.{all_reply_lines}
use Rattle.lucy_report.proofs.outcome_lines.write_all_replies.Given as goal

abbrev pub invariant-loop-life : goal.invariant-loop-life
invariant-loop-life l = l.out.items ++ all_reply_lines (map (λ life. life.replica) (drop l.life-index l.lives)) ≡ l.fn.out.items ++ all_reply_lines (map (λ life. life.replica) l.lives)
