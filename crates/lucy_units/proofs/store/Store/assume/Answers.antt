use Rattle.std.proofs.Common.{[], None}
use Rattle.lucy_units.proofs.Deriving.{derived_push}
use Rattle.lucy_units.proofs.store.Store.assume.Goals as goal

pub invariant_of-self-2 : goal.invariant_of-self-2
invariant_of-self-2 c =
    rw (c.push_reserved.ensures.items, c.in_ok-reserve.ensures.items, c.in_ok-push.ensures.items) (record { derived = derived_push c.self.inside.clauses.items [] c.self.inside.atoms.items c.self.inside.reasons.items c.in_ok-atom.atom None c.self.invariant.derived tt })
