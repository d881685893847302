use Rattle.std.proofs.Common.{append_assoc}
use Rattle.lucy_expr.proofs.Flattening.{turns_of_all-push}
use Rattle.lucy_expr.proofs.nodes.push_parts.Goals as goal

pub returns-in_ok-push-in-Apply : goal.returns-in_ok-push-in-Apply
returns-in_ok-push-in-Apply c =
    rw (c.in_ok-push-in-Apply.ensures.items, turns_of_all-push, c.deref.ensures, c.in-Apply.is)

pub returns-in_ok-push-in-Merge-2 : goal.returns-in_ok-push-in-Merge-2
returns-in_ok-push-in-Merge-2 c =
    rw (c.in_ok-push-in-Merge-2.ensures.items, c.in_ok-push-in-Merge.ensures.items, turns_of_all-push, turns_of_all-push, c.deref-in-Merge.ensures, c.deref-in-Merge-2.ensures, c.in-Merge.is, append_assoc)
