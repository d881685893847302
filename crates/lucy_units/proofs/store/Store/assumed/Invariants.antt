use Rattle.std.proofs.Common.{◌≡◌, ◌++◌, drop}
use Rattle.lucy_units.specs.Stores.{assumed}
use Rattle.lucy_units.proofs.store.Store.assumed.Given as goal

abbrev pub invariant-loop-i : goal.invariant-loop-i
invariant-loop-i l = l.all.items ++ assumed (drop l.i l.self-inside.atoms.items) (drop l.i l.self-inside.reasons.items) ≡ assumed l.self-inside.atoms.items l.self-inside.reasons.items
