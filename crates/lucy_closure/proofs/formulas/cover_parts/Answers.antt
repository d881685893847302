use Rattle.lucy_closure.proofs.Segments.{plan_over}
use Rattle.lucy_closure.proofs.formulas.cover_parts.Goals as goal

pub add_uncovered-requires : goal.add_uncovered-requires
add_uncovered-requires c = rw (c.as_slice.ensures, c.len-leaves.ensures) (plan_over c.args.plan.now c.requires)
