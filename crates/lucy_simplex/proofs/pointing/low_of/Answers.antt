use Rattle.std.proofs.Common.{rules}
use Rattle.std.proofs.lemmas.Int.{to_z-of_z}
use mir.Syntax.{w64}
use mir.Val.{SFits}
use Rattle.lucy_simplex.proofs.PointLines.{small_not_wide}
use Rattle.lucy_simplex.proofs.pointing.low_of.Goals as goal

pub unreachable-requires : goal.unreachable-requires
unreachable-requires c =
    let fits : SFits w64 c.args.range.lo = search rules in
    small_not_wide c.args.range c.requires (simp to_z-of_z at c.in-Err.ensures)
