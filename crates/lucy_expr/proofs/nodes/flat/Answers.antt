use Rattle.lucy_expr.proofs.Flattening.{flat_smaller, flat_more}
use Rattle.lucy_expr.proofs.nodes.flat.Goals as goal

pub loop-next-smaller : goal.loop-next-smaller
loop-next-smaller c =
    flat_smaller c.in-Some.next c.loop-next.stack.items c.pop.new.self.items c.push_parts.new.stack.items c.in-Some.ensures.items c.in_ok-push_parts.ensures

pub loop-next-preserved : goal.loop-next-preserved
loop-next-preserved c =
    rw c.in_ok-push-2.ensures.items
    (flat_more c.loop-next.turns.items _ c.in_ok-turn.field-0 c.in-Some.next c.loop-next.stack.items c.pop.new.self.items c.push_parts.new.stack.items c.in-Some.ensures.items c.in_ok-turn.ensures c.in_ok-push_parts.ensures c.loop-next.invariant)
