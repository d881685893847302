use Rattle.std.proofs.Common.{rules, ◌≡◌, ◌<◌, ℕ, length, IfErr, sym, subst, arith, slice_index_or}
use Rattle.std.proofs.Crossing.{crosses}
use Rattle.std.proofs.Crossing as heap
use denote.Exit as exit
use denote.Param.Send.{sendable, param_sync, arg_sync, shr_sync}
use Rattle.lucy_cluster.specs.Causes.{IsCause}
use Rattle.lucy_cluster.proofs.Crossing.{error_send, cluster_sync, captured_sync}
use Rattle.lucy_cluster.proofs.Refusals.{first_is_one}
use Rattle.lucy_cluster.proofs.clusters.Cluster.work_all.Goals as goal

pub map_indices-requires-send-X : goal.map_indices-requires-send-X
map_indices-requires-send-X g c κs within = search (sendable, crosses, error_send) depth 20

pub map_indices-requires-sync-F : goal.map_indices-requires-sync-F
map_indices-requires-sync-F g c κs within =
    param_sync 3 _ (arg_sync _ exit.no _ (captured_sync _ _ _ _ _ (shr_sync _ _ _ cluster_sync) (shr_sync _ _ _ c.type_bounds.sync-R) (shr_sync _ _ _ heap.sync) (shr_sync _ _ _ c.type_bounds.sync-G)))

pub returns : goal.returns
returns g c =
    let each = c.in_ok-answers.ensures.each in
    let met = λ (place : ℕ) (d : _) (below : place < c.len.result). (each place d below).1.met in
    let caused : (place : ℕ) (d : _) (below : place < c.len.result) → IfErr (slice_index_or c.in_ok-answers.answers.items place d) (λ e. IsCause c.args.self.now e) = λ place d below. search (rules, met place d below) in
    let size : length c.in_ok-answers.answers.items ≡ c.len.result = search rules in
    subst (λ r. IfErr r (λ e. IsCause c.args.self.now e)) (sym c.first_refusal.ensures)
    (first_is_one (λ e. IsCause c.args.self.now e) c.in_ok-answers.answers.items (λ place d below. caused place d (omega (arith, below, size))))
