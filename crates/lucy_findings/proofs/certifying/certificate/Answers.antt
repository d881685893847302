use Rattle.std.proofs.Common.{ap, ◌∙◌}
use Rattle.lucy_judge.specs.Judging.{refusal_of}
use Rattle.lucy_findings.proofs.certifying.certificate.Goals as goal

pub returns-clause-accepted : goal.returns-clause-accepted
returns-clause-accepted c = ap (refusal_of c.args.plan.now) c.in_ok-certificate.ensures.value ∙ c.found_sound_is_accepted.ensures c.args.plan.now c.args.findings.now c.requires.findings c.requires.sound
