use Rattle.std.proofs.Common.{◌≡◌, ◌-◌}
use Rattle.lucy_gather.specs.Terms.{raised_all}
use Rattle.lucy_gather.proofs.terms.raised_all.Given as goal

abbrev pub invariant-loop-done : goal.invariant-loop-done
invariant-loop-done l = raised_all l.leaf (l.count - l._done) l.by l.factors ≡ raised_all l.first l.count l.by l.fn.factors
