use Rattle.std.proofs.Common.{sym, rules}
use Rattle.std.proofs.lemmas.Int.{to_z-of_z}
use mir.Syntax.{w64, w128}
use mir.Val.{SFits}
use Rattle.lucy_simplex.proofs.RowSums.{least_at}
use Rattle.lucy_simplex.proofs.rows.least_added.Goals as goal

pub returns : goal.returns
returns c =
    let sum_fits : SFits w128 c.args.sum = c.ranges.sum in
    let by_fits : SFits w128 c.args.part.by = search rules in
    let number_fits : SFits w64 c.least_number.result = search rules in
    let result_fits : SFits w128 c.part_added.result = search rules in
    let is = simp to_z-of_z at c.part_added.ensures in
    let number = simp to_z-of_z at c.least_number.ensures in
    let at = least_at c.args.bounds.now c.args.part c.range_at.result c.requires.names c.range_at.ensures.value in
    simp to_z-of_z (rw at (rw (sym number) is))
