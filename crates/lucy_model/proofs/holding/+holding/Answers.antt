use Rattle.std.proofs.Common.{◌≡◌, Bool, true, false, ◌∙◌, length, map}
use Rattle.std.specs.List.{list_any}
use Rattle.lucy_model.specs.Asked.{is_so}
use Rattle.lucy_model.specs.Conditions.{Test, is_condition, holds_at}
use Rattle.lucy_model.proofs.Parts.{any_here, all_later, any_end, decides, asked}
use Rattle.lucy_model.proofs.holding.+holding.Goals as goal

pub some_is-returns-then-holds_over-holding : goal.some_is-returns-then-holds_over-holding
some_is-returns-then-holds_over-holding g t c =
    let xs = g.N.Numbers.numbers c.args.numbers.now in
    let ys = c.args.arguments.now in
    let part = c.part-item.result in
    let here : is_so c.args.holding (holds_at part xs ys) ≡ true = asked c.holds_over.result (holds_at part xs ys) c.args.holding true c.holds_over.ensures c.if-holds_over-holding.true in
    decides true (list_any (λ (t : Test). is_so c.args.holding (t xs ys)) (map holds_at c.args.parts.now))
    (c.loop-part.invariant.0 ∙ any_here (λ (t : Test). is_so c.args.holding (t xs ys)) holds_at c.args.parts.now c.loop-part.part-index part true c.loop-part-test.true c.part-item.is here)

pub some_is-loop-part-preserved : goal.some_is-loop-part-preserved
some_is-loop-part-preserved g t c =
    let xs = g.N.Numbers.numbers c.args.numbers.now in
    let ys = c.args.arguments.now in
    let part = c.part-item.result in
    let here : is_so c.args.holding (holds_at part xs ys) ≡ false = asked c.holds_over.result (holds_at part xs ys) c.args.holding false c.holds_over.ensures c.if-holds_over-holding.false in (
      c.loop-part.invariant.0 ∙ any_here (λ (t : Test). is_so c.args.holding (t xs ys)) holds_at c.args.parts.now c.loop-part.part-index part false c.loop-part-test.true c.part-item.is here,
      all_later (λ (b : Bool). b) (is_condition (length xs) (length ys)) c.args.parts.now c.loop-part.part-index part c.loop-part-test.true c.part-item.is c.loop-part.invariant.1,
    )

pub some_is-returns : goal.some_is-returns
some_is-returns g t c =
    let xs = g.N.Numbers.numbers c.args.numbers.now in
    let ys = c.args.arguments.now in
    decides false (list_any (λ (t : Test). is_so c.args.holding (t xs ys)) (map holds_at c.args.parts.now))
    (c.loop-part.invariant.0 ∙ any_end (λ (t : Test). is_so c.args.holding (t xs ys)) holds_at c.args.parts.now c.loop-part.part-index c.loop-part-test.false)
