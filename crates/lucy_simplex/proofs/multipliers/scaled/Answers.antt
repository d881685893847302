use Rattle.std.proofs.Common.{◌∙◌, rules, arith}
use Rattle.std.proofs.lemmas.Int.{to_z-of_z}
use mir.Syntax.{w128}
use mir.Val.{SFits}
use Rattle.lucy_simplex.proofs.Multiples.{multipliers_more, multipliers_whole}
use Rattle.lucy_simplex.proofs.multipliers.scaled.Goals as goal

pub loop-number-preserved : goal.loop-number-preserved
loop-number-preserved c =
    let fits : SFits w128 c.multiplier.result = search rules in
    multipliers_more c.args.common c.loop-number.number-index c.args.numbers.now c.loop-number.all.items c.push_multiplier.new.all.items c.number-item.result _
    c.loop-number-test.true c.number-item.is c.loop-number.invariant (to_z-of_z w128 c.multiplier.result fits ∙ c.multiplier.ensures) c.in_ok-push_multiplier.ensures

pub returns : goal.returns
returns c = multipliers_whole c.args.common c.loop-number.number-index c.args.numbers.now c.loop-number.all.items (omega arith) c.loop-number.invariant
