use Rattle.std.proofs.Common.{◌≡◌, drop}
use Rattle.lucy_gather.specs.Scopes.{held}
use Rattle.lucy_gather.proofs.scopes.held_param.Given as goal

abbrev pub invariant-loop-param : goal.invariant-loop-param
invariant-loop-param l = held 0 l.name l.params ≡ held 0 l.name (drop l.param-index l.params)
