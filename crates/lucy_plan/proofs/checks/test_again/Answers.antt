use Rattle.std.proofs.Common.{◌≡◌, ◌==◌, true, false, take, ◌∙◌, sym}
use Rattle.std.specs.List.{list_any}
use Rattle.lucy_plan.proofs.Changes.{again_now, again_later}
use Rattle.lucy_plan.proofs.checks.test_again.Goals as goal

pub returns-then-is_set : goal.returns-then-is_set
returns-then-is_set c =
    let x = c.index-sets-i.result in
    let found : list_any (λ earlier. earlier.leaf == x.leaf) (take c.loop-i.i c.args.sets.now) ≡ true = sym c.is_set.ensures ∙ c.if-is_set.true in
    c.loop-i.invariant ∙ again_now c.args.sets.now c.loop-i.i x c.loop-i-test.true c.index-sets-i.is found

pub loop-i-preserved : goal.loop-i-preserved
loop-i-preserved c =
    let x = c.index-sets-i.result in
    let found : list_any (λ earlier. earlier.leaf == x.leaf) (take c.loop-i.i c.args.sets.now) ≡ false = sym c.is_set.ensures ∙ c.if-is_set.false in
    c.loop-i.invariant ∙ again_later c.args.sets.now c.loop-i.i x c.loop-i-test.true c.index-sets-i.is found
