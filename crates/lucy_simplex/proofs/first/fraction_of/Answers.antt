use Rattle.std.proofs.lemmas.Int.{to_z-of_z}
use mir.Syntax.{w128}
use mir.Val.{SFits}
use Rattle.lucy_simplex.proofs.FirstLines.{whole_too_wide}
use Rattle.lucy_simplex.proofs.first.fraction_of.Goals as goal

pub returns-else-is_within-clause-wide : goal.returns-else-is_within-clause-wide
returns-else-is_within-clause-wide c =
    let fits : SFits w128 c.args.number = c.ranges.number in
    let within = simp to_z-of_z at c.is_within.ensures in
    whole_too_wide c.args.number (λ k. (let t = within.1 k in let f = c.if-is_within.false in cc))
