use Rattle.std.proofs.Common.{rules, ap, sym, ◌∙◌}
use Rattle.lucy_tree.specs.declared.conditions.Cond.{Cond}
use Rattle.lucy_gather.specs.Conditions.{condition_of}
use Rattle.lucy_gather.proofs.ConditionLemmas.{implied_is, goes_on, stops}
use Rattle.lucy_gather.proofs.conditions.+conditions.Goals as goal

pub implied_of-returns-in_ok-both-in-Some : goal.implied_of-returns-in_ok-both-in-Some
implied_of-returns-in_ok-both-in-Some t c =
    let f = condition_of c.args.scope.now c.args.params.now in
    implied_is f c.args.implied.now c.in-Some.implied c.args.left c.in_ok-right-in-Some.right c.in_ok-both-in-Some.both c.args.count.now c.counted.new.count c.condition_of.new.count
    c.in-Some.is c.in_ok-counted-in-Some.ensures (ap (λ (x : Cond). f x c.counted.new.count) (sym c.get.ensures) ∙ c.in_ok-right-in-Some.ensures) c.in_ok-both-in-Some.ensures

pub condition_of-returns : goal.condition_of-returns
condition_of-returns t c =
    goes_on c.args.scope.now c.args.params.now c.args.cond.now c.args.count.now c.condition.new.count c.implied_of.new.count c.in_ok-left.left c.implied_of.result c.in_ok-left.ensures c.implied_of.ensures

pub condition_of-returns-in_err-left : goal.condition_of-returns-in_err-left
condition_of-returns-in_err-left t c =
    let refused = stops c.args.scope.now c.args.params.now c.args.cond.now c.args.count.now c.in_err-left.field-0.0 c.in_err-left.ensures in
    search (rules, refused)
