use Rattle.std.proofs.Common.{◌≡◌, Ok}
use Rattle.std.specs.Arc.{arc_value}
use Rattle.lucy_names.specs.Plans.{AreNamesOf}
use Rattle.lucy_top.specs.Reading.{plan_said}
use Rattle.lucy_top.proofs.GivenLemmas.{reads_ok}
use Rattle.lucy_top.proofs.OpeningLemmas.{read_so}
use Rattle.lucy_top.proofs.RunLemmas.{takes_so}
use Rattle.lucy_top.proofs.loading.take_plan.Goals as goal

pub returns-clause-takes : goal.returns-clause-takes
returns-clause-takes c = takes_so (λ found. arc_value found.0) (plan_said c.args.name.now c.args.text.now) c.read_shared-read.result c.or_refused.result c.read_shared-read.ensures.read c.or_refused.ensures

pub returns-clause-names : goal.returns-clause-names
returns-clause-names c = read_so (λ found. AreNamesOf (arc_value found.0) found.1) c.read_shared-read.result c.or_refused.result c.or_refused.ensures c.read_shared-read.ensures.names

pub returns-clause-said : goal.returns-clause-said
returns-clause-said c = read_so (λ found. plan_said c.args.name.now c.args.text.now ≡ Ok (arc_value found.0)) c.read_shared-read.result c.or_refused.result c.or_refused.ensures
    (reads_ok (λ found. arc_value found.0) (plan_said c.args.name.now c.args.text.now) c.read_shared-read.result c.read_shared-read.ensures.read)
