use Rattle.std.proofs.Common.{sym, subst, arith, Option, ◌+◌}
use Rattle.lucy_simplex.specs.declared.quotients.Best.{Best}
use Rattle.lucy_simplex.specs.Choices.{fall, IsBest}
use Rattle.lucy_simplex.proofs.LeastQuotient.{best_step}
use Rattle.lucy_simplex.proofs.ReadQuotients.{quotients_too_wide}
use Rattle.lucy_simplex.proofs.quotients.leaving.Goals as goal

pub loop-i-preserved : goal.loop-i-preserved
loop-i-preserved c = λ qs h.
    subst (λ (o : Option Best). IsBest (fall c.args.entering) qs (c.loop-i.i + 1) o) (sym c.least_of-least.ensures)
    (best_step (fall c.args.entering) qs c.args.lines.now c.loop-i.i c.index-lines-i.result c.loop-i.least c.in-Ok.next h (omega arith) (sym c.index-lines-i.is) (c.loop-i.invariant qs h) c.in-Ok.ensures.value)

pub returns-in_default-clause-wide : goal.returns-in_default-clause-wide
returns-in_default-clause-wide c = λ qs h. quotients_too_wide c.args.entering qs c.args.lines.now c.loop-i.i c.index-lines-i.result h (omega arith) (sym c.index-lines-i.is) c.in_default.ensures.wide
