use Rattle.std.proofs.Common.{sym}
use Rattle.lucy_plan.proofs.Ranges.{uneven_arguments}
use Rattle.lucy_plan.proofs.calls.are_arguments.Goals as goal

pub returns-then-params-arguments : goal.returns-then-params-arguments
returns-then-params-arguments c = sym (uneven_arguments c.args.params.now c.args.arguments.now c.if-params-arguments.true)
