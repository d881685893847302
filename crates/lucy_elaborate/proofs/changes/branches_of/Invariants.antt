use Rattle.std.proofs.Common.{◌≡◌, drop}
use Rattle.std.specs.Prelude.{[]}
use Rattle.lucy_elaborate.specs.Changes.{branches_of}
use Rattle.lucy_elaborate.proofs.changes.branches_of.Given as goal

abbrev pub invariant-loop-branch : goal.invariant-loop-branch
invariant-loop-branch l = branches_of l.scope l.params (drop l.branch-index l.branches) l.found l.count ≡ branches_of l.scope l.params l.branches [] l.fn.count
