use Rattle.std.proofs.Common.{◌≤◌}
use Rattle.lucy_expr.specs.declared.nodes.Node.{size-Node}
use Rattle.lucy_expr.proofs.nodes.Node.+drop.Given as goal

abbrev pub invariant-loop-self : goal.invariant-loop-self
invariant-loop-self l = size-Node l.self ≤ size-Node l.fn.self
