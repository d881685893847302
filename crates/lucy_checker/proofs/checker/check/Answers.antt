use Rattle.std.proofs.Common.{ℕ, Option, subst}
use Rattle.lucy_cert.specs.declared.steps.Why.{Why}
use Rattle.lucy_cert.specs.Refuting.{fault_of}
use Rattle.lucy_checker.specs.Checking.{Says}
use Rattle.lucy_checker.proofs.ProgressLemmas.{fault_is, refuted_exactly}
use Rattle.lucy_checker.proofs.checker.check.Goals as goal

pub returns-clause-exact : goal.returns-clause-exact
returns-clause-exact c =
    let e = fault_is c.args.formula.now c.args.live c.args.proof.now.steps c.as_slice-step-items.result.now c.loop-step.step-index c.loop-step.progress c.as_slice-step-items.ensures c.loop-step-test.false c.loop-step.invariant in
    subst (λ (o : Option (ℕ × Why)). Says o c.verdict_of.result) e c.verdict_of.ensures

pub returns-clause-refuted : goal.returns-clause-refuted
returns-clause-refuted c =
    let e = fault_is c.args.formula.now c.args.live c.args.proof.now.steps c.as_slice-step-items.result.now c.loop-step.step-index c.loop-step.progress c.as_slice-step-items.ensures c.loop-step-test.false c.loop-step.invariant in
    let says : Says (fault_of c.args.formula.now c.args.proof.now c.args.live) c.verdict_of.result = subst (λ (o : Option (ℕ × Why)). Says o c.verdict_of.result) e c.verdict_of.ensures in
    refuted_exactly c.args.formula.now c.args.proof.now c.args.live c.verdict_of.result says
