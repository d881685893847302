use Rattle.lucy_units.specs.Propagations.{Passing}
use Rattle.lucy_units.proofs.store.Store.pass.Given as goal

abbrev pub invariant-loop-number : goal.invariant-loop-number
invariant-loop-number l = Passing l.fn.self l.self l.number l.changed
