use Rattle.std.proofs.Common.{rules}
use Rattle.std.proofs.lemmas.Int.{to_z-of_z}
use mir.Syntax.{w64, w128}
use mir.Val.{SFits}
use Rattle.lucy_simplex.proofs.RowSums.{low_at}
use Rattle.lucy_simplex.proofs.rows.low_added.Goals as goal

pub returns : goal.returns
returns c =
    let sum_fits : SFits w128 c.args.sum = c.ranges.sum in
    let by_fits : SFits w128 c.args.part.by = search rules in
    let low_fits : SFits w64 c.range_at.result.lo = search rules in
    let result_fits : SFits w128 c.part_added.result = search rules in
    let is = simp to_z-of_z at c.part_added.ensures in
    let at = low_at c.args.bounds.now c.args.part.variable c.range_at.result c.requires.names c.range_at.ensures.value in
    simp to_z-of_z (rw at is)
