use Rattle.std.proofs.Common.{rules, ◌≡◌}
use Rattle.std.specs.Arc.{arc_value}
use Rattle.lucy_top.proofs.judging.judge_text.Goals as goal

pub returns-clause-read : goal.returns-clause-read
returns-clause-read c =
    let given : arc_value c.in_ok-given.given ≡ arc_value c.args.plan.now = search rules in
    let kept : arc_value c.in_ok-kept.kept ≡ arc_value c.args.plan.now = search rules in
    let tells = rw given at c.verify-answer.ensures in
    let read = rw kept at c.tell_answer.ensures.read in
    read c.args.text.now tells
