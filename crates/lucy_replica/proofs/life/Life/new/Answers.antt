use Rattle.std.proofs.Common.{rules, sym, ap, refl}
use Rattle.std.specs.Arc.{arc_value}
use Rattle.lucy_expr.specs.Trees.{Start}
use Rattle.lucy_epochs.specs.Records.{Record}
use Rattle.lucy_replica.specs.Replicas.{newcomer}
use Rattle.lucy_replica.specs.Facts.{IsSettled}
use Rattle.lucy_replica.proofs.Lists.{expression_is}
use Rattle.lucy_replica.proofs.life.Life.new.Goals as goal

pub invariant_of-result : goal.invariant_of-result
invariant_of-result c =
    let a = c.args in
    let first : Record = arc_value a.first in
    let settled : IsSettled (newcomer a.replica a.replicas first a.work.items) =
    rw c.requires.first (c.newcomer_is_settled.ensures a.replica a.replicas (arc_value a.checked) a.work.items (search rules) c.requires.number c.requires.few c.requires.fits) in
    let expression = expression_is c.in_ok-expr.expr Start a.replicas c.in_ok-expr.ensures.tree c.in_ok-expr.ensures.room in
    record {
      settled = rw (c.new.ensures.items, c.new-2.ensures.items, expression) settled;
      state_is = rw c.in_ok-expr.ensures.tree (search rules);
      opening_is = λ opening h. cc;
      plan_is = sym (ap (λ (r : Record). r.plan) c.requires.first);
      accepted_is = rw c.new.ensures.items refl;
      depth_few = rw c.requires.first (search rules);
    }
