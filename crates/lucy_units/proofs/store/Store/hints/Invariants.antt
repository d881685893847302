use Rattle.lucy_units.specs.Hints.{IsLed}
use Rattle.lucy_units.proofs.store.Store.hints.Given as goal

abbrev pub invariant-loop-i : goal.invariant-loop-i
invariant-loop-i l = IsLed l.self-inside.clauses.items l.self-inside.atoms.items l.self-inside.reasons.items l.i l.hints.items l.trues.items
