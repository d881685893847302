use Rattle.std.proofs.Common.{◌+◌, sym, subst}
use Rattle.lucy_units.specs.Propagations.{Passing}
use Rattle.lucy_units.proofs.Passing.{passing_start, passing_changed, passing_settled}
use Rattle.lucy_units.proofs.store.Store.pass.Goals.{in-Changed, in-Settled}
use Rattle.lucy_units.proofs.store.Store.pass.Goals as goal

pub loop-number-init : goal.loop-number-init
loop-number-init c = passing_start c.args.self.now

pub loop-number-preserved : goal.loop-number-preserved
loop-number-preserved c =
    let old = c.args.self.now in
    let now = c.loop-number.self in
    let new = c.look.new.self in
    let n = c.loop-number.number in
    elim c.match-branch-2.branch [
      | in-Changed w ↦ subst (Passing old new (n + 1)) (sym w.changed-is) (passing_changed old now new n c.loop-number.changed c.loop-number.invariant (rw w.in-Changed.is at c.in_ok-look.ensures.looks))
      | in-Settled w ↦ subst (Passing old new (n + 1)) (sym w.changed-is) (passing_settled old now new n c.loop-number.changed c.loop-number.invariant (rw w.in-Settled.is at c.in_ok-look.ensures.looks))
    ]
