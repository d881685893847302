use Rattle.std.proofs.Common.{◌≡◌, vec_len}
use Rattle.lucy_net.proofs.mailboxes.Mail.new.Given as goal

abbrev pub invariant-loop-replica : goal.invariant-loop-replica
invariant-loop-replica _ l = vec_len l.rooms ≡ l._replica
