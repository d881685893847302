use Rattle.std.proofs.Common.{◌+◌, ◌*◌}
use Rattle.lucy_lexer.specs.declared.token.TokenKind.TheVariants as k
use Rattle.lucy_syntax.specs.Input.{eat}
use Rattle.lucy_syntax.specs.Lists.{then_of}
use Rattle.lucy_syntax.specs.Conditions.{unary, conj_in, ands, ors, inner_cond, inner_unary}
use Rattle.lucy_syntax.proofs.Turns.{Turning}
use Rattle.lucy_syntax.proofs.conditions.+conditions.Given as goal

abbrev pub decreases-negated : goal.decreases-negated
decreases-negated l = 8 * l.depth + 0

abbrev pub decreases-in_parens : goal.decreases-in_parens
decreases-in_parens l = 8 * l.depth + 0

abbrev pub decreases-implied : goal.decreases-implied
decreases-implied l = 8 * l.depth + 0

abbrev pub decreases-unary : goal.decreases-unary
decreases-unary l = 8 * l.depth + 1

abbrev pub decreases-ands : goal.decreases-ands
decreases-ands l = 8 * l.depth + 2

abbrev pub decreases-conj : goal.decreases-conj
decreases-conj l = 8 * l.depth + 3

abbrev pub decreases-ors : goal.decreases-ors
decreases-ors l = 8 * l.depth + 4

abbrev pub decreases-disj : goal.decreases-disj
decreases-disj l = 8 * l.depth + 5

abbrev pub decreases-cond : goal.decreases-cond
decreases-cond l = 8 * l.depth + 6

abbrev pub invariant-ands-loop-turn : goal.invariant-ands-loop-turn
invariant-ands-loop-turn l = Turning (eat k.And) then_of (unary l.depth) l._turn-end l._turn l.found l.cursor (ands l.depth (inner_cond l.depth) (inner_unary l.depth) l.fn.cursor)

abbrev pub invariant-ors-loop-turn : goal.invariant-ors-loop-turn
invariant-ors-loop-turn l = Turning (eat k.Or) then_of (conj_in l.depth (inner_cond l.depth) (inner_unary l.depth)) l._turn-end l._turn l.found l.cursor (ors l.depth (inner_cond l.depth) (inner_unary l.depth) l.fn.cursor)
