-- What a replica does with what another one sent.
use Rattle.std.specs.Prelude.{◌==◌, ◌&&◌, nat_le, max, Bool, true, false, if◌then◌else◌}
use base.Stored.{Gv, gnil, gnum, gcons}
use Rattle.lucy_expr.specs.Trees.{Merge, depth}
use Rattle.lucy_epochs.specs.Records.{Record, record_code}
use Rattle.lucy_replica.specs.Replicas.{Replica, Message}
use Rattle.lucy_replica.specs.declared.answers.Received.{Received}
use Rattle.lucy_replica.specs.declared.answers.Received.TheVariants.{Merged, Stale, Deep}

-- two values told by trees of numbers are the same
abbrev pub is_same_code : Gv → Gv → Bool
is_same_code gnil gnil = true
is_same_code (gnum m) (gnum n) = m == n
is_same_code (gcons a b) (gcons c d) = is_same_code a c && is_same_code b d
is_same_code _ _ = false

-- two records are equal, field by field
unfoldable pub is_same_record : Record → Record → Bool
is_same_record left right = is_same_code (record_code.code left) (record_code.code right)

-- the deeper of both expressions is at the plan's limit or past it
abbrev pub is_deep : Replica → Message → Bool
is_deep replica message = nat_le replica.epoch.plan.depth (max (depth replica.expression.tree) (depth message.expression.tree))

-- the replica after a merge with what was sent, its own expression left
abbrev pub with_merged : Replica → Message → Replica
with_merged replica message = record replica {
  expression = record {
    tree = Merge replica.expression.tree message.expression.tree;
    room = max replica.expression.room message.expression.room;
  };
}

-- what a replica answers to what another one sent, and what it is then
abbrev pub received : Message → Replica → Received × Replica
received message replica =
    if is_same_record replica.epoch message.epoch
    then (if is_deep replica message then (Deep, replica) else (Merged, with_merged replica message))
    else (Stale, replica)
