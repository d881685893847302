use Rattle.std.proofs.Common.{[], ◌∷◌}
use Rattle.lucy_units.proofs.Deriving.{derived_more}
use Rattle.lucy_units.proofs.store.Store.add.Goals as goal

pub invariant_of-self-2 : goal.invariant_of-self-2
invariant_of-self-2 c =
    rw c.in_ok-push.ensures.items (record { derived = derived_more c.self.inside.clauses.items (c.in_ok-clause.clause ∷ []) [] c.self.inside.atoms.items c.self.inside.reasons.items c.self.invariant.derived })
