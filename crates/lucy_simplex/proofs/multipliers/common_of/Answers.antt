use Rattle.std.proofs.Common.{arith}
use Rattle.lucy_simplex.proofs.Commons.{common_first, commons_wide}
use Rattle.lucy_simplex.proofs.Multiples.{common_more, common_whole}
use Rattle.lucy_simplex.proofs.multipliers.common_of.Goals as goal

pub loop-place-init : goal.loop-place-init
loop-place-init c = common_first c.args.numbers.now

pub loop-place-preserved : goal.loop-place-preserved
loop-place-preserved c = common_more c.loop-place.common c.in-Some.next c.loop-place.place c.args.numbers.now c.index-numbers-place.result (omega arith) c.index-numbers-place.is c.with_bottom.ensures.reduced c.loop-place.invariant c.in-Some.ensures.least

pub returns-clause-common : goal.returns-clause-common
returns-clause-common c = common_whole c.loop-place.common c.loop-place.place c.args.numbers.now (omega arith) c.loop-place.invariant

pub returns-in_default-clause-wide : goal.returns-in_default-clause-wide
returns-in_default-clause-wide c =
    commons_wide c.loop-place.common c.args.variables c.loop-place.place c.saturating_sub.result c.args.numbers.now c.index-numbers-place.result (omega arith) c.index-numbers-place.is
    c.with_bottom.ensures.reduced c.loop-place.invariant c.in_default.ensures.wide (omega arith)
