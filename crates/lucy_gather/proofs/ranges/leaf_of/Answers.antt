use Rattle.std.proofs.Common.{rules}
use Rattle.lucy_gather.specs.Ranges.{leaf_of}
use Rattle.lucy_gather.proofs.RangeLemmas.{at_numbers, leaf_is}
use Rattle.lucy_gather.proofs.ranges.leaf_of.Goals as goal

pub returns : goal.returns
returns c = at_numbers (leaf_of c.args.kind) c.new.result c.args.lo c.args.hi (search rules) (search rules)
    (leaf_is c.args.kind _ _ c.new.result c.new.ensures.range c.new.ensures.value)
