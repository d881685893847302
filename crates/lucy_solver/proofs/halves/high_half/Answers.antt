use Rattle.std.proofs.Common.{◌≡◌, ◌<◌, ◌^◌, ◌++◌, ◌∷◌, [], length, pos, rules}
use Rattle.lucy_clauses.specs.Sums.{complement}
use Rattle.lucy_clauses.specs.Lines.{one_variable}
use Rattle.std.proofs.lemmas.Int.{to_z-of_z}
use mir.Syntax.{w64}
use mir.Val.{SFits}
use Rattle.lucy_solver.proofs.Halving.{box_more, box_set, low_bound, low_width, set_falls}
use Rattle.lucy_solver.proofs.halves.high_half.Goals as goal

pub returns-clause-bounds : goal.returns-clause-bounds
returns-clause-bounds c =
    let fits : SFits w64 c.args.middle = search rules in
    let h = simp to_z-of_z at c.with_low-half.ensures in
    let at : c.in-Ok.place ≡ length c.args.decisions.now = search rules in
    let small : c.in-Ok.place < 2 ^ 32 = search rules in
    let t = complement (one_variable c.args.wide.variable (pos 1) c.args.middle) in
    rw (c.in_ok-all.ensures, c.requires.upper) (box_set c.args.formula.now.ranges (c.args.decisions.now ++ t ∷ []) c.args.bounds.now c.args.wide.variable c.with_low-half.result (box_more c.args.formula.now.ranges c.args.decisions.now (t ∷ []) c.args.bounds.now c.requires.bounds) (low_bound c.args.formula.now.ranges c.args.decisions.now c.args.wide.variable c.in-Ok.place c.args.middle c.args.wide.bound c.with_low-half.result (c.requires.bounds.each c.args.wide.variable c.args.wide.bound c.requires.wide.there) small at c.requires.low c.requires.high h))

pub returns-clause-falls : goal.returns-clause-falls
returns-clause-falls c =
    let fits : SFits w64 c.args.middle = search rules in
    let h = simp to_z-of_z at c.with_low-half.ensures in
    rw c.in_ok-all.ensures (set_falls c.args.bounds.now c.args.wide.variable c.args.wide.bound c.with_low-half.result c.requires.wide.below c.requires.wide.there (low_width c.in-Ok.place c.args.middle c.args.wide.bound c.with_low-half.result h c.requires.low c.requires.high))
