use Rattle.std.proofs.Common.{◌≡◌, drop}
use Rattle.lucy_session.specs.Sessions.{expr_of}
use Rattle.lucy_session.proofs.reached.expr_of.Given as goal

abbrev pub invariant-loop-entry : goal.invariant-loop-entry
invariant-loop-entry l = expr_of l.reached l.state ≡ expr_of (drop l.entry-index l.reached) l.state
