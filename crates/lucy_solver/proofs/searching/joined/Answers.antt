use Rattle.lucy_solver.proofs.Steps.{denies_on, goes_on_twice}
use Rattle.lucy_solver.proofs.Denying.{rup_one, denied_on, denied_exactly}
use Rattle.lucy_solver.proofs.searching.joined.Goals as goal

pub shown-requires-clause-hints : goal.shown-requires-clause-hints
shown-requires-clause-hints c = rw c.as_slice.ensures (rup_one c.args.formula.now c.args.steps.now.items c.args.left c.args.lower.now c.requires.left)

pub shown-requires-2-clause-hints : goal.shown-requires-2-clause-hints
shown-requires-2-clause-hints c = rw c.as_slice-2.ensures (rup_one c.args.formula.now c.shown.new.steps.items c.args.right c.args.upper.now (denied_on c.args.formula.now c.args.steps.now.items c.shown.new.steps.items c.args.right c.args.upper.now c.requires.right c.in_ok-one.ensures.goes_on))

pub join-requires-clause-left : goal.join-requires-clause-left
join-requires-clause-left c = rw (← c.requires.lower) (denies_on c.args.formula.now c.shown.new.steps.items c.shown-2.new.steps.items c.in_ok-one.one c.args.lower.now c.in_ok-one.ensures.denied c.in_ok-two.ensures.goes_on)

pub returns : goal.returns
returns c =
    (c.in_ok-number.ensures.shown, goes_on_twice _ _ _ (goes_on_twice _ _ _ c.in_ok-one.ensures.goes_on c.in_ok-two.ensures.goes_on) c.in_ok-number.ensures.goes_on, denied_exactly c.args.formula.now c.join.new.steps.items c.in_ok-number.number c.args.decisions.now c.in_ok-number.ensures.denied)
