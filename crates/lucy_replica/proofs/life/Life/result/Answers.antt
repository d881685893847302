use Rattle.std.proofs.lemmas.List.{length-replicate}
use Rattle.lucy_replica.proofs.LifeLemmas.{state_length}
use Rattle.lucy_replica.proofs.life.Life.result.Goals as goal

pub apply-requires-clause-state : goal.apply-requires-clause-state
apply-requires-clause-state c = rw (c.deref-4.ensures, c.deref-3.ensures, c.plan.ensures, c.deref-2.ensures) (state_length c.self.inside c.self.invariant)

pub apply-requires-clause-out : goal.apply-requires-clause-out
apply-requires-clause-out c =
    rw (c.in_ok-raw.ensures, length-replicate, c.length.ensures, c.deref.ensures, c.deref-3.ensures, c.plan.ensures, c.deref-2.ensures)
    (state_length c.self.inside c.self.invariant)
