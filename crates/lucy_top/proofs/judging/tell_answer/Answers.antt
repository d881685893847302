use Rattle.std.specs.Arc.{arc_value}
use Rattle.lucy_top.specs.Judging.{refusal_in}
use Rattle.lucy_top.specs.Reading.{judged}
use Rattle.lucy_top.proofs.JudgingLemmas.{accepted_told, error_reads, none_reads}
use Rattle.lucy_top.proofs.judging.tell_answer.Goals as goal

pub returns-in-Ok-clause-read : goal.returns-in-Ok-clause-read
returns-in-Ok-clause-read c = λ text tells.
    let told = rw c.in-Ok.is at tells in
    none_reads refusal_in (judged c.args.name.now (arc_value c.args.plan) text) c.accept.result (accepted_told c.args.name.now (arc_value c.args.plan) text told.1) c.accept.ensures.read

pub returns-in-Err-clause-read : goal.returns-in-Err-clause-read
returns-in-Err-clause-read c = λ text tells.
    error_reads refusal_in c.args.name.now (arc_value c.args.plan) text c.args.answer c.in-Err.error c.tell_error.result c.in-Err.is c.tell_error.ensures.read c.tell_error.ensures.wanting tells
