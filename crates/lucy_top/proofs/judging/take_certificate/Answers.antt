use Rattle.std.specs.Arc.{arc_value}
use Rattle.lucy_top.specs.Judging.{refusal_in}
use Rattle.lucy_top.specs.Reading.{judged}
use Rattle.lucy_top.proofs.RunLemmas.{takes_so}
use Rattle.lucy_top.proofs.judging.take_certificate.Goals as goal

pub returns-clause-takes : goal.returns-clause-takes
returns-clause-takes c =
    takes_so refusal_in (judged c.args.name.now (arc_value c.args.plan.now) c.args.text.now) c.judge_text-read.result c.or_refused.result c.judge_text-read.ensures.read c.or_refused.ensures
