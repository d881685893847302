use Rattle.std.proofs.Common.{◌≡◌, length}
use Rattle.lucy_session.proofs.tests.full_session.Given as goal

abbrev pub invariant-loop-number : goal.invariant-loop-number
invariant-loop-number l = length l.session.plan.object ≡ 2
