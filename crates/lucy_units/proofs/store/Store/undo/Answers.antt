use Rattle.std.proofs.Common.{[]}
use Rattle.lucy_units.proofs.Deriving.{derived_take}
use Rattle.lucy_units.proofs.store.Store.undo.Goals as goal

pub invariant_of-self : goal.invariant_of-self
invariant_of-self c =
    rw (c.truncate.ensures.items, c.truncate-2.ensures.items) (record { derived = derived_take c.self.inside.clauses.items [] c.self.inside.atoms.items c.self.inside.reasons.items c.args.mark c.self.invariant.derived })
