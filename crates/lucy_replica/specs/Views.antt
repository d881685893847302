-- What contracts see of a life, and what its type keeps.
use Rattle.std.specs.Prelude.{◌≡◌, ◌≤◌, ◌-◌, ℕ, min, map, Option, Some, None, vec_len, vec_capacity}
use Rattle.std.specs.Option.{option_map}
use Rattle.std.specs.Arc.{arc_value}
use Rattle.lucy_expr.specs.Trees.{Start}
use Rattle.lucy_expr.specs.Expressions.{Expression}
use Rattle.lucy_replica.specs.Replicas.{Replica, Seen, state_of}
use Rattle.lucy_replica.specs.Submitting.{accepted}
use Rattle.lucy_replica.specs.Facts.{IsSettled}
use Rattle.lucy_replica.specs.Answering.{answer_of, stay_of}
use Rattle.lucy_replica.specs.declared.life.Life.TheInside.{Inside}

-- the replica, without pointers
abbrev pub replica_of : Inside → Replica
replica_of life = record {
  number = life.replica;
  epoch = arc_value life.epoch;
  expression = life.expr;
  wanted = option_map (λ point. point.tree) life.mark;
  calls = life.calls.items;
  replies = map answer_of life.replies.items;
  closings = map stay_of life.closings.items;
}

-- room is reserved for no change where the expression that an adoption begins with is not kept
abbrev pub spare_with : Option Expression → ℕ → ℕ
spare_with None room = 0
spare_with (Some opening) room = room

-- else for as many as there is room for both closings and replies
abbrev pub seen_of : Inside → Seen
seen_of life = record {
  replica = replica_of life;
  spare = spare_with life.opening (min (vec_capacity life.closings - vec_len life.closings) (vec_capacity life.replies - vec_len life.replies));
}

-- what a life keeps
pub record IsLife (life : Inside) : Type 0 where
  -- all that is known of its replica
  pub settled : IsSettled (replica_of life)
  -- the state is what the expression gives
  pub state_is : arc_value life.state ≡ state_of (replica_of life)
  -- the plan of its records is the one that was checked
  pub plan_is : arc_value life.checked ≡ (arc_value life.epoch).plan
  -- where the expression that an adoption begins with is kept, it is the start with the present room
  pub opening_is : (opening : Expression) → life.opening ≡ Some opening → opening ≡ record { tree = Start; room = life.expr.room }
  -- the number of calls that it accepted
  pub accepted_is : life.accepted ≡ accepted (replica_of life)
  -- the plan's limit of depth
  pub depth_few : (arc_value life.epoch).plan.depth ≤ 2048
