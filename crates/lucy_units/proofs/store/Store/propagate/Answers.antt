use Rattle.lucy_units.proofs.Deriving.{back}
use Rattle.lucy_units.proofs.store.Store.propagate.Goals as goal

pub returns-in-Err-clause-memory : goal.returns-in-Err-clause-memory
returns-in-Err-clause-memory c =
    rw (c.undo.ensures, c.mark-mark.ensures) (back c.args.self.now c.propagated.new.self c.facts.ensures c.in-Err.ensures.grows)
