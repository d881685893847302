use Rattle.std.proofs.Common.{◌≡◌, drop}
use Rattle.lucy_gather.specs.Scopes.{walked}
use Rattle.lucy_gather.proofs.scopes.walked.Given as goal

abbrev pub invariant-loop-other : goal.invariant-loop-other
invariant-loop-other l = walked l.entries l.found (drop l.other-index l.others) ≡ walked l.entries l.fn.first l.others
