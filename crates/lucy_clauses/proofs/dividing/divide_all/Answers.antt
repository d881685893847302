use Rattle.std.proofs.Common.{◌<◌, ◌≤◌, length, sym, rules}
use Rattle.lucy_clauses.specs.Dividing.{divided}
use Rattle.lucy_clauses.proofs.Mapping.{mapped_step, mapped_end}
use Rattle.lucy_clauses.proofs.dividing.divide_all.Goals as goal

pub loop-i-preserved : goal.loop-i-preserved
loop-i-preserved c =
    let lt : c.loop-i.i < length c.loop-i.parts.items = search rules in
    mapped_step (divided c.args.by) c.loop-i.i c.args.parts.now.items c.loop-i.parts.items c.index.result.now c.divided.result lt c.loop-i.invariant (sym c.index.ensures) c.divided.ensures

pub returns : goal.returns
returns c =
    let ends : length c.loop-i.parts.items ≤ c.loop-i.i = search rules in
    mapped_end (divided c.args.by) c.loop-i.i c.args.parts.now.items c.loop-i.parts.items ends c.loop-i.invariant
