use Rattle.lucy_units.proofs.Deriving.{grows_not, grows_on}
use Rattle.lucy_units.proofs.store.Store.propagated.Goals as goal

pub loop-init : goal.loop-init
loop-init c = grows_not c.args.self.now

pub returns-in_err-number-clause-grows : goal.returns-in_err-number-clause-grows
returns-in_err-number-clause-grows c = grows_on _ _ _ c.loop.invariant c.in_err-number.ensures.grows

pub returns-in_err-hints-in-Conflict-clause-grows : goal.returns-in_err-hints-in-Conflict-clause-grows
returns-in_err-hints-in-Conflict-clause-grows c =
    let passes = rw c.in-Conflict.is at c.in_ok-number.ensures.passes in
    grows_on _ _ _ c.loop.invariant passes.0

pub returns-in-Conflict-clause-grows : goal.returns-in-Conflict-clause-grows
returns-in-Conflict-clause-grows c =
    let passes = rw c.in-Conflict.is at c.in_ok-number.ensures.passes in
    grows_on _ _ _ c.loop.invariant passes.0

pub returns-in-Quiet-clause-grows : goal.returns-in-Quiet-clause-grows
returns-in-Quiet-clause-grows c =
    let passes = rw c.in-Quiet.is at c.in_ok-number.ensures.passes in
    grows_on _ _ _ c.loop.invariant passes.0

pub loop-preserved : goal.loop-preserved
loop-preserved c =
    let passes = rw c.in-Changed.is at c.in_ok-number.ensures.passes in
    grows_on _ _ _ c.loop.invariant passes
