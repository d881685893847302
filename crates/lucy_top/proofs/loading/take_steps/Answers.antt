use Rattle.std.specs.Prelude.{All}
use Rattle.std.specs.Global.{Vec}
use Rattle.lucy_calls.specs.declared.steps.Step.{Step}
use Rattle.lucy_calls.specs.Laws.{IsStepOf}
use Rattle.lucy_reading.specs.Calls.{steps_read}
use Rattle.lucy_top.proofs.OpeningLemmas.{read_so}
use Rattle.lucy_top.proofs.RunLemmas.{takes_so}
use Rattle.lucy_top.proofs.loading.take_steps.Goals as goal

pub returns-clause-takes : goal.returns-clause-takes
returns-clause-takes c = takes_so (λ (v : Vec Step). v.items) (steps_read c.args.name.now c.args.replicas c.args.text.now) c.read_steps-read.result c.or_refused.result c.read_steps-read.ensures.read c.or_refused.ensures

pub returns-clause-within : goal.returns-clause-within
returns-clause-within c = read_so (λ (v : Vec Step). All (IsStepOf c.args.replicas) v.items) c.read_steps-read.result c.or_refused.result c.or_refused.ensures c.read_steps-read.ensures.within
