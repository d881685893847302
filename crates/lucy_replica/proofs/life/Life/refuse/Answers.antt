use Rattle.std.proofs.Common.{◌≡◌, ◌++◌, [], ◌∷◌, Some, rules, sym, subst, map, refl, append-nil}
use Rattle.std.specs.Arc.{arc_value}
use Rattle.std.proofs.lemmas.List.{map-append}
use Rattle.lucy_replica.specs.Replicas.{Broken, Seen}
use Rattle.lucy_replica.specs.Submitting.{next_call, Breaks}
use Rattle.lucy_replica.specs.Answering.{answer_of}
use Rattle.lucy_replica.specs.Views.{replica_of}
use Rattle.lucy_replica.proofs.Acceptance.{accepted_ids-append}
use Rattle.lucy_replica.proofs.Settling.{broken_settled}
use Rattle.lucy_replica.proofs.life.Life.refuse.Goals as goal

pub invariant_of-self-2 : goal.invariant_of-self-2
invariant_of-self-2 c =
    let k = c.self.invariant in
    let r = replica_of c.self.inside in
    let next = subst (λ (s : Seen). next_call s.replica ≡ Some c.args.call.now) (sym c.self.view_is) c.requires.next in
    let breaks = subst (λ (s : Seen). Breaks s.replica.epoch s.replica.expression.tree c.args.call.now) (sym c.self.view_is) c.requires.breaks in
    let epoch : arc_value c.in_ok-epoch.epoch ≡ r.epoch = search rules in
    let grew : map answer_of c.push_reserved.new.self.items ≡ r.replies ++ Broken r.epoch r.expression.tree ∷ [] =
    rw (c.push_reserved.ensures.items, map-append, c.in_ok-reserve.ensures.items, epoch, c.in_ok-point.ensures) refl in
    record {
      settled = rw grew (broken_settled r c.args.call.now k.settled next breaks);
      state_is = k.state_is;
      plan_is = k.plan_is;
      opening_is = k.opening_is;
      accepted_is = rw (grew, accepted_ids-append, append-nil) k.accepted_is;
      depth_few = k.depth_few;
    }
