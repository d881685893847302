use Rattle.std.proofs.Common.{arith, get_or}
use mir.Syntax.{w64}
use mir.Val.{Fits}
use Rattle.lucy_solver.specs.Shows.{rup_step}
use Rattle.lucy_solver.proofs.Steps.{rup_shown, step_shown}
use Rattle.lucy_solver.proofs.Writing.{numbers_fit}
use Rattle.lucy_solver.proofs.denials.shown.Goals as goal

pub returns-clause-shown : goal.returns-clause-shown
returns-clause-shown c =
    rw c.in_ok-push_step.ensures (rup_shown c.args.formula.now c.args.steps.now.items c.args.decisions.now c.in_ok-clause.clause c.args.hints.now c.requires.shown c.in_ok-clause.ensures c.requires.names (numbers_fit c.args.hints.now (λ k. (let f : Fits w64 (get_or c.args.hints.now k 0) = c.type_inv.hints k in omega (arith, f)))) c.requires.hints)

pub returns-clause-denied : goal.returns-clause-denied
returns-clause-denied c =
    rw (c.in_ok-push_step.ensures, c.in_ok-number.ensures, c.as_slice.ensures.value) (step_shown c.args.formula.now c.args.steps.now.items c.args.decisions.now (rup_step c.in_ok-clause.clause c.args.hints.now) c.in_ok-clause.ensures)
