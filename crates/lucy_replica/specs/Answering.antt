-- Replies and closings, without pointers.
use Rattle.std.specs.Arc.{arc_value}
use Rattle.lucy_replica.specs.Replicas.{Answer, Stay}
use Rattle.lucy_replica.specs.Replicas as answer
use Rattle.lucy_replica.specs.declared.replies.Closing.{Closing}
use Rattle.lucy_replica.specs.declared.replies.Reply.{Reply}
use Rattle.lucy_replica.specs.declared.replies.Reply.TheVariants.{Done, Broken, Moved, Refused}

-- what a reply tells
abbrev pub answer_of : Reply → Answer
answer_of (Done epoch id) = answer.Done (arc_value epoch) id
answer_of (Broken epoch point) = answer.Broken (arc_value epoch) point.tree
answer_of (Moved epoch point id) = answer.Moved (arc_value epoch) point.tree id
answer_of (Refused point parts) = answer.Refused point.tree (arc_value parts)

-- what a closing tells
abbrev pub stay_of : Closing → Stay
stay_of closing = record { epoch = arc_value closing.epoch; state = arc_value closing.state; tree = closing.expr.tree }
