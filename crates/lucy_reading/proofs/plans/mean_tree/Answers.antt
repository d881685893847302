use Rattle.std.proofs.Common.{subst}
use Rattle.std.specs.Prelude.{Result, IfOk}
use Rattle.lucy_gather.specs.declared.error.ElabError.{ElabError}
use Rattle.lucy_names.specs.Plans.{AreNamesOf}
use Rattle.lucy_names.specs.declared.names.Names.{Names}
use Rattle.lucy_plan.specs.declared.parts.PlanParts.{PlanParts}
use Rattle.lucy_reading.proofs.NamesLemmas.{elaborated_so}
use Rattle.lucy_reading.proofs.plans.mean_tree.Goals as goal

pub returns-in-Ok-clause-names : goal.returns-in-Ok-clause-names
returns-in-Ok-clause-names c =
    subst (λ (r : Result (PlanParts × Names) ElabError). IfOk r (λ found. AreNamesOf found.0 found.1)) c.in-Ok.ensures (elaborated_so c.args.tree.now)
