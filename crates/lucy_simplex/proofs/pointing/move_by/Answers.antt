use Rattle.std.proofs.Common.{◌⊎◌, ◌<◌, ◌≤◌, ◌+◌, ℕ, subst, rules}
use Rattle.lucy_simplex.proofs.PointLines.{moves_there, moves_nothing}
use Rattle.lucy_simplex.proofs.pointing.move_by.Goals as goal

pub returns-in_default-clause-moves : goal.returns-in_default-clause-moves
returns-in_default-clause-moves c =
    moves_nothing c.args.line.now c.args.point.now.items (subst (λ (k : ℕ). (c.args.line.now.basic < 2) ⊎ (2 + k ≤ c.args.line.now.basic)) (search rules) c.in_default.ensures.none)

pub returns-clause-moves : goal.returns-clause-moves
returns-clause-moves c =
    moves_there c.args.line.now c.args.point.now.items c.in-Some.variable c.index.result.now c.index-2.result.now c.in-Ok.sum c.requires c.in-Some.ensures.some (search rules) (search rules) (search rules) c.in-Ok.ensures.0
