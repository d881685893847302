use Rattle.std.proofs.Common.{◌++◌, ◌+◌, ◌*◌}
use Rattle.lucy_lexer.specs.declared.token.TokenKind.TheVariants as k
use Rattle.lucy_tree.specs.Words.{then_words, chain_words}
use Rattle.lucy_tree.specs.Spelling.{unary_words}
use Rattle.lucy_print.specs.Layout.{texts}
use Rattle.lucy_print.proofs.Lists.{Writing}
use Rattle.lucy_print.proofs.conditions.+conditions.Given as goal

abbrev pub invariant-put_ands-loop-other : goal.invariant-put_ands-loop-other
invariant-put_ands-loop-other l = Writing (then_words k.And unary_words) l.others l.other-index l.out.items (l.fn.out.items ++ texts (then_words k.And unary_words) l.others)

abbrev pub invariant-put_ors-loop-other : goal.invariant-put_ors-loop-other
invariant-put_ors-loop-other l =
    Writing (then_words k.Or (chain_words k.And unary_words)) l.others l.other-index l.out.items (l.fn.out.items ++ texts (then_words k.Or (chain_words k.And unary_words)) l.others)

abbrev pub decreases-put_unary : goal.decreases-put_unary
decreases-put_unary l = 8 * goal.size-put_unary l

abbrev pub decreases-put_ands : goal.decreases-put_ands
decreases-put_ands l = 8 * goal.size-put_ands l + 1

abbrev pub decreases-put_conj : goal.decreases-put_conj
decreases-put_conj l = 8 * goal.size-put_conj l + 2

abbrev pub decreases-put_ors : goal.decreases-put_ors
decreases-put_ors l = 8 * goal.size-put_ors l + 3

abbrev pub decreases-put_disj : goal.decreases-put_disj
decreases-put_disj l = 8 * goal.size-put_disj l + 4

abbrev pub decreases-put_implied : goal.decreases-put_implied
decreases-put_implied l = 8 * goal.size-put_implied l + 1

abbrev pub decreases-put_cond : goal.decreases-put_cond
decreases-put_cond l = 8 * goal.size-put_cond l
