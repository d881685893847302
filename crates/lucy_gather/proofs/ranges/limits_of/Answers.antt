use Rattle.std.proofs.Common.{rules}
use Rattle.lucy_gather.specs.Ranges.{limits_of}
use Rattle.lucy_gather.proofs.RangeLemmas.{at_numbers, limits_is}
use Rattle.lucy_gather.proofs.ranges.limits_of.Goals as goal

pub returns : goal.returns
returns c = at_numbers limits_of c.new.result c.args.lo c.args.hi (search rules) (search rules)
    (limits_is _ _ c.new.result c.new.ensures.some c.new.ensures.value)
