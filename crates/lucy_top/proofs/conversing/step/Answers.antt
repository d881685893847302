use Rattle.std.proofs.Common.{◌≡◌, true, false, sym, ◌∙◌}
use Rattle.std.specs.Prelude.{is_some}
use Rattle.lucy_report.specs.LabelTexts.{confluent, not_confluent}
use Rattle.lucy_top.specs.Conversing.{pair_of}
use Rattle.lucy_top.proofs.ConversingLemmas.{wanting_steps, closed_steps, broken_steps, stands_still, can_show, shown_steps, shown_cut}
use Rattle.lucy_top.proofs.conversing.step.Goals as goal

pub returns-in-Err-clause-steps : goal.returns-in-Err-clause-steps
returns-in-Err-clause-steps g c = wanting_steps c.next.new.self c.args.stands

pub returns-in-Ok-Closed-clause-steps : goal.returns-in-Ok-Closed-clause-steps
returns-in-Ok-Closed-clause-steps g c =
    let answer = rw c.in-Ok-Closed.field-0-is at c.in-Ok-Closed.ensures.answer in
    let means = rw c.in-Ok-Closed.field-0-is at c.in-Ok-Closed.ensures.means in
    closed_steps c.args.stands answer c.in-Ok-Closed.ensures.pair c.in-Ok-Closed.ensures.rest means (c.say_last.ensures.tells (confluent c.next.new.self.points) c.closed_text.ensures)

pub returns-in-Ok-Broken-clause-steps : goal.returns-in-Ok-Broken-clause-steps
returns-in-Ok-Broken-clause-steps g c =
    let answer = rw c.in-Ok-Broken.field-0-is at c.in-Ok-Broken.ensures.answer in
    let means = rw c.in-Ok-Broken.field-0-is at c.in-Ok-Broken.ensures.means in
    broken_steps c.args.stands c.in-Ok-Broken.left c.in-Ok-Broken.right answer c.in-Ok-Broken.ensures.pair c.in-Ok-Broken.ensures.rest means
    (c.say_last-in-Ok-Broken.ensures.tells (not_confluent c.next.new.self.names.txns c.in-Ok-Broken.left.tree c.in-Ok-Broken.right.tree) c.broken_text-text.ensures)

pub returns-then-stands-clause-steps : goal.returns-then-stands-clause-steps
returns-then-stands-clause-steps g c =
    let some : is_some c.args.session.now.pair ≡ true = sym c.requires.stands ∙ c.if-stands.true in
    let still = stands_still c.args.session.now c.next.new.self some c.in-Ok-Pair.ensures.pair c.in-Ok-Pair.ensures.rest in
    rw (c.if-stands.true, sym still) (c.hear_label.ensures.steps c.args.walk)

pub returns-in-Ok-clause-steps : goal.returns-in-Ok-clause-steps
returns-in-Ok-clause-steps g c =
    let free : is_some c.args.session.now.pair ≡ false = sym c.requires.stands ∙ c.if-stands.false in
    let answer = rw c.in-Ok-Pair.field-0-is at c.in-Ok-Pair.ensures.answer in
    let can = can_show c.args.session.now c.next.new.self c.in-Ok-Pair.left c.in-Ok-Pair.right c.in-Ok-Pair.field-0-2 c.in-Ok-Pair.field-0-3 free answer c.in-Ok-Pair.ensures.pair c.in-Ok-Pair.ensures.rest in
    rw c.if-stands.false (shown_steps {walk = c.args.walk} (pair_of c.in-Ok-Pair.left c.in-Ok-Pair.right) can.0 can.1 c.in-Ok.ensures.session c.in-Ok.ensures.gives c.in-Ok.ensures.later)

pub returns-clause-steps : goal.returns-clause-steps
returns-clause-steps g c =
    let free : is_some c.args.session.now.pair ≡ false = sym c.requires.stands ∙ c.if-stands.false in
    let answer = rw c.in-Ok-Pair.field-0-is at c.in-Ok-Pair.ensures.answer in
    let can = can_show c.args.session.now c.next.new.self c.in-Ok-Pair.left c.in-Ok-Pair.right c.in-Ok-Pair.field-0-2 c.in-Ok-Pair.field-0-3 free answer c.in-Ok-Pair.ensures.pair c.in-Ok-Pair.ensures.rest in
    shown_cut c.show.new.session (pair_of c.in-Ok-Pair.left c.in-Ok-Pair.right) can.0 can.1 c.in-Err-show.ensures.gives
