use Rattle.std.proofs.Common.{◌≡◌, ◌∙◌, Option, None, subst, sym, ap, IfOk}
use Rattle.lucy_cert.specs.declared.steps.ProofStep.{ProofStep}
use Rattle.lucy_cert.specs.declared.steps.Why.{Why}
use Rattle.lucy_cert.specs.Justified.{nothing, step_fault}
use Rattle.lucy_cert.specs.Refuting.{known_after}
use Rattle.lucy_checker.proofs.EarlierLemmas.{rup_behind, drop_behind}
use Rattle.lucy_checker.proofs.testing.step_fault.Goals as goal

pub returns-in-Rup : goal.returns-in-Rup
returns-in-Rup c =
    let told = simp (c.as_slice-in-Rup.ensures, c.as_slice-in-Rup-2.ensures, c.as_slice-in-Rup-3.ensures) at c.rup_behind.ensures in
    let same = rup_behind c.args.formula.now c.args.earlier.now c.in-Rup.clause c.in-Rup.hints c.requires in
    let step = ap (λ (s : ProofStep). step_fault c.args.formula.now None (known_after nothing c.args.earlier.now) s) (sym c.in-Rup.is) in
    subst (λ (w : Option Why). IfOk c.rup_behind.result (λ why. why ≡ w)) (same ∙ step) told

pub returns-in-Drop : goal.returns-in-Drop
returns-in-Drop c =
    let same = drop_behind c.args.formula.now c.args.earlier.now c.in-Drop.clauses c.requires in
    let step = ap (λ (s : ProofStep). step_fault c.args.formula.now None (known_after nothing c.args.earlier.now) s) (sym c.in-Drop.is) in
    cc (c.numbers_fault.ensures, c.len.ensures, c.as_slice-in-Drop.ensures, same, step)
