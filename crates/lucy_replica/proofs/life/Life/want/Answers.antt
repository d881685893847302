use Rattle.std.proofs.Common.{◌≡◌, Some, sym, subst}
use Rattle.lucy_replica.specs.Replicas.{Seen}
use Rattle.lucy_replica.specs.Submitting.{next_call, IsOutside}
use Rattle.lucy_replica.specs.Views.{replica_of}
use Rattle.lucy_replica.proofs.Settling.{wanted_settled}
use Rattle.lucy_replica.proofs.life.Life.want.Goals as goal

pub invariant_of-self : goal.invariant_of-self
invariant_of-self c =
    let k = c.self.invariant in
    let r = replica_of c.self.inside in
    let next = subst (λ (s : Seen). next_call s.replica ≡ Some c.args.call.now) (sym c.self.view_is) c.requires.next in
    let outside = subst (λ (s : Seen). IsOutside s.replica.epoch s.replica.expression.tree c.args.call.now) (sym c.self.view_is) c.requires.outside in
    record {
      settled = rw c.in_ok-point.ensures (wanted_settled r c.args.call.now k.settled next outside);
      state_is = k.state_is;
      plan_is = k.plan_is;
      opening_is = k.opening_is;
      accepted_is = k.accepted_is;
      depth_few = k.depth_few;
    }
