use Rattle.std.proofs.Common.{◌≡◌, drop}
use Rattle.lucy_elaborate.specs.Txns.{later_params}
use Rattle.lucy_elaborate.proofs.txns.later_params.Given as goal

abbrev pub invariant-loop-param : goal.invariant-loop-param
invariant-loop-param l = later_params l.scope (drop l.param-index l.params) l.head ≡ later_params l.scope l.params l.fn.head
