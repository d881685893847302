-- A cluster is shared among threads, and why its work stops goes from one to another.
use denote.RattleType.{RattleType}
use denote.Param.Send.{IsSend, IsSync, sendable, struct_sync}
use denote.Struct.Struct.{Struct}
use denote.Struct.Declared.{shape}
use denote.Struct.Tuple.{TupleAt, type_at}
use mathlib.Core.List.{List, [], ◌∷◌}
use Prim.Native.Nat.{ℕ}
use Rattle.std.proofs.Crossing.{crosses}
use Rattle.lucy_epochs.proofs.Crossing.{epoch_send, epoch_sync, table_send}
use Rattle.lucy_replica.proofs.Crossing.{life_send, packet_send}
use Rattle.lucy_cluster.specs.contracts.clusters.Cluster as Cluster
use Rattle.lucy_cluster.specs.contracts.error.ClusterError as ClusterError

pub error_send : IsSend ClusterError.the_field.row
error_send = search (sendable, crosses, epoch_send, epoch_sync) depth 20

pub cluster_sync : IsSync Cluster.the_row
cluster_sync = search (sendable, crosses, life_send, table_send, packet_send) depth 20

-- What a closure captures may be shared where each part may.
pub captured_sync : (ν : List ℕ) (A B C D : RattleType) → IsSync A → IsSync B → IsSync C → IsSync D → IsSync (TupleAt ν (A ∷ B ∷ C ∷ D ∷ []))
captured_sync ν A B C D a b c d =
    let T = type_at ν (A ∷ B ∷ C ∷ D ∷ []) in
    let fields : IsSync (Struct (shape T)) = struct_sync (shape T) (a, (b, (c, (d, tt)))) in
    record { shared = λ x. fields.shared _ }
