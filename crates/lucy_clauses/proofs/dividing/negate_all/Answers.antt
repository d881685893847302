use Rattle.std.proofs.Common.{◌<◌, ◌≤◌, length, sym, rules}
use Rattle.lucy_clauses.specs.Sums.{negative_part}
use Rattle.lucy_clauses.proofs.Mapping.{mapped_step, mapped_end}
use Rattle.lucy_clauses.proofs.GatheredParts.{within_front}
use Rattle.lucy_clauses.proofs.dividing.negate_all.Goals as goal

pub loop-i-preserved : goal.loop-i-preserved
loop-i-preserved c =
    let lt : c.loop-i.i < length c.loop-i.parts.items = search rules in
    mapped_step negative_part c.loop-i.i c.args.parts.now.items c.loop-i.parts.items c.index.result.now c.negative_part.result lt c.loop-i.invariant (sym c.index.ensures) c.negative_part.ensures

pub returns : goal.returns
returns c =
    let ends : length c.loop-i.parts.items ≤ c.loop-i.i = search rules in
    mapped_end negative_part c.loop-i.i c.args.parts.now.items c.loop-i.parts.items ends c.loop-i.invariant

pub negative_part-requires : goal.negative_part-requires
negative_part-requires c =
    let lt : c.loop-i.i < length c.loop-i.parts.items = search rules in
    within_front negative_part c.loop-i.i c.args.parts.now.items c.loop-i.parts.items c.index.result.now lt c.loop-i.invariant (sym c.index.ensures) c.requires
