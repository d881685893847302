use Rattle.std.proofs.Common.{sym, subst, arith, rules, Option, Some, ◌+◌}
use Rattle.lucy_simplex.specs.declared.quotients.Best.{Best}
use Rattle.lucy_simplex.specs.Choices.{own_below, IsBest}
use Rattle.lucy_simplex.proofs.LeastQuotient.{best_step}
use Rattle.lucy_simplex.proofs.ReadQuotients.{read_constant}
use Rattle.lucy_simplex.proofs.quotients.lowest.Goals as goal

pub loop-i-preserved : goal.loop-i-preserved
loop-i-preserved c = λ qs h.
    subst (λ (o : Option Best). IsBest own_below qs (c.loop-i.i + 1) o) (sym c.least_of-least.ensures)
    (best_step own_below qs c.args.lines.now c.loop-i.i c.index-lines-i.result c.loop-i.least (Some c.index.result.now) h (omega arith) (sym c.index-lines-i.is) (c.loop-i.invariant qs h)
    (λ q r. read_constant q c.index-lines-i.result c.index.result.now (search rules) (search rules) r))
