use Rattle.lucy_units.specs.Propagations.{Grows}
use Rattle.lucy_units.proofs.store.Store.propagated.Given as goal

abbrev pub invariant-loop : goal.invariant-loop
invariant-loop l = Grows l.fn.self l.self
