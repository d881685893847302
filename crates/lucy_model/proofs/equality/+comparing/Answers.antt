use Rattle.std.proofs.Common.{sym, ◌∙◌}
use Rattle.lucy_model.proofs.Differing.{differ}
use Rattle.lucy_model.proofs.equality.+comparing.Goals as goal

pub same_conditions-returns-in_default : goal.same_conditions-returns-in_default
same_conditions-returns-in_default t c = differ c.args.left.now c.args.right.now (λ e. c.in_default.not-True-1 (sym e ∙ c.in_default.is-0))

pub same_conditions-returns-in_default-2 : goal.same_conditions-returns-in_default-2
same_conditions-returns-in_default-2 t c = differ c.args.left.now c.args.right.now (λ e. c.in_default.not-False-1 (sym e ∙ c.in_default.is-0))

pub same_conditions-returns-in_default-3 : goal.same_conditions-returns-in_default-3
same_conditions-returns-in_default-3 t c = differ c.args.left.now c.args.right.now (λ e. c.in_default.not-Compare-1 c.in_default.field-0-0 c.in_default.field-1-0 (sym e ∙ c.in_default.is-0))

pub same_conditions-returns-in_default-4 : goal.same_conditions-returns-in_default-4
same_conditions-returns-in_default-4 t c = differ c.args.left.now c.args.right.now (λ e. c.in_default.not-Is-1 c.in_default.field-0-0 (sym e ∙ c.in_default.is-0))

pub same_conditions-returns-in_default-5 : goal.same_conditions-returns-in_default-5
same_conditions-returns-in_default-5 t c = differ c.args.left.now c.args.right.now (λ e. c.in_default.not-Not-1 c.in_default.field-0-0 (sym e ∙ c.in_default.is-0))

pub same_conditions-returns-in_default-6 : goal.same_conditions-returns-in_default-6
same_conditions-returns-in_default-6 t c = differ c.args.left.now c.args.right.now (λ e. c.in_default.not-And-1 c.in_default.field-0-0 (sym e ∙ c.in_default.is-0))

pub same_conditions-returns-in_default-7 : goal.same_conditions-returns-in_default-7
same_conditions-returns-in_default-7 t c = differ c.args.left.now c.args.right.now (λ e. c.in_default.not-Or-1 c.in_default.field-0-0 (sym e ∙ c.in_default.is-0))

pub same_conditions-returns-in_default-8 : goal.same_conditions-returns-in_default-8
same_conditions-returns-in_default-8 t c = differ c.args.left.now c.args.right.now (λ e. c.in_default.not-Implies-1 c.in_default.field-0-0 c.in_default.field-1-0 (sym e ∙ c.in_default.is-0))
