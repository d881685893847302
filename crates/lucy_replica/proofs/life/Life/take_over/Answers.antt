use Rattle.std.proofs.Common.{◌≡◌, ℤ, List, false, sym, ◌∙◌, ap, subst, max, length}
use Rattle.std.specs.Arc.{arc_value}
use Rattle.lucy_model.specs.Merging.{merged}
use Rattle.lucy_expr.specs.Trees.{Merge, depth}
use Rattle.lucy_expr.specs.Expressions.{Expression}
use Rattle.lucy_replica.specs.Replicas.{Seen, state_of}
use Rattle.lucy_replica.specs.Receiving.{is_deep}
use Rattle.lucy_replica.specs.Views.{replica_of}
use Rattle.lucy_replica.proofs.Lists.{expression_is}
use Rattle.lucy_replica.proofs.LifeLemmas.{state_here, message_length}
use Rattle.lucy_replica.proofs.Settling.{reachable_here, not_deep, merged_settled}
use Rattle.lucy_replica.proofs.life.Life.take_over.Goals as goal

pub merged-requires-2 : goal.merged-requires-2
merged-requires-2 c =
    let r = replica_of c.self.inside in
    let m = c.args.packet.now in
    let same = subst (λ (s : Seen). s.replica.epoch ≡ m.epoch) (sym c.self.view_is) c.requires.same in
    let even = message_length r m c.closed_segment_holds_values.ensures c.merge_is_idempotent.ensures c.segment_is_whole.ensures c.self.invariant.settled same c.state.ensures.made in
    subst (λ (s : Seen). length c.deref.result.now ≡ length s.replica.epoch.plan.object) c.self.view_is (rw (c.deref.ensures, c.state.ensures.state) even)

pub invariant_of-self : goal.invariant_of-self
invariant_of-self c =
    let k = c.self.invariant in
    let r = replica_of c.self.inside in
    let m = c.args.packet.now in
    let same = subst (λ (s : Seen). s.replica.epoch ≡ m.epoch) (sym c.self.view_is) c.requires.same in
    let shallow = subst (λ (s : Seen). is_deep s.replica m ≡ false) (sym c.self.view_is) c.requires.shallow in
    let below = not_deep r.epoch.plan.depth (max (depth r.expression.tree) (depth m.expression.tree)) shallow in
    let made = c.state.ensures.made in
    let tree = c.in_ok-expr.ensures.tree ∙ ap (λ (e : Expression). Merge r.expression.tree e.tree) c.expr.ensures in
    let room = c.in_ok-expr.ensures.room ∙ ap (λ (e : Expression). max r.expression.room e.room) c.expr.ensures in
    let expression = expression_is c.in_ok-expr.expr (Merge r.expression.tree m.expression.tree) (max r.expression.room m.expression.room) tree room in
    let given = subst (λ (s : Seen). arc_value c.in_ok-state.state ≡ merged s.replica.epoch.plan.object (state_of s.replica) c.deref.result.now) (sym c.self.view_is) c.in_ok-state.ensures in
    let theirs = c.deref.ensures ∙ c.state.ensures.state ∙ state_here r m same made in
    record {
      settled = rw expression (merged_settled r m c.closed_segment_holds_values.ensures c.merge_is_idempotent.ensures c.segment_is_whole.ensures k.settled (reachable_here m r same made) below);
      state_is = rw expression (given ∙ ap (λ (numbers : List ℤ). merged r.epoch.plan.object (state_of r) numbers) theirs);
      plan_is = k.plan_is;
      opening_is = λ opening h. cc;
      accepted_is = k.accepted_is;
      depth_few = k.depth_few;
    }
