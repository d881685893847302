use Rattle.std.proofs.Common.{◌≡◌, None, ◌∙◌, ap, sym, List, true, false}
use Rattle.lucy_cert.specs.declared.steps.ProofStep.{ProofStep}
use Rattle.lucy_cert.specs.Justified.{nothing, step_fault}
use Rattle.lucy_cert.specs.Refuting.{known_after}
use Rattle.lucy_cert.specs.Writable.{step_fits}
use Rattle.lucy_solver.proofs.Steps.{shown_step}
use Rattle.lucy_solver.proofs.testing.pushed_step.Goals as goal

pub returns-clause-shown : goal.returns-clause-shown
returns-clause-shown c =
    let fault : step_fault c.args.formula.now None (known_after nothing c.args.steps.now.items) c.args.step ≡ None = ap (λ (ss : List ProofStep). step_fault c.args.formula.now None (known_after nothing ss) c.args.step) (sym c.as_slice.ensures.value) ∙ c.in_ok-is_justified.ensures c.if-not-branch.false in
    let fits : step_fits false c.args.step ≡ true = sym c.step_fits.ensures ∙ c.if-not-step_fits.false in
    rw c.in_ok-push.ensures.items (shown_step c.args.formula.now c.args.steps.now.items c.args.step c.requires fits fault)
