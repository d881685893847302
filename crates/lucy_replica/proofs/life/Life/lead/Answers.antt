use Rattle.std.proofs.Common.{◌≡◌, ◌++◌, [], ◌∷◌, ◌≤◌, ℕ, Some, None, rules, sym, ◌∙◌, ap, subst, refl, map, arith, length-append}
use Rattle.std.specs.Option.{option_map}
use Rattle.std.specs.Arc.{arc_value}
use Rattle.std.proofs.lemmas.List.{map-append}
use Rattle.lucy_expr.specs.Expressions.{Expression}
use Rattle.lucy_expr.specs.declared.ids.Id.{Id}
use Rattle.lucy_epochs.specs.Records.{Record}
use Rattle.lucy_plan.specs.declared.parts.PlanParts.{PlanParts}
use Rattle.lucy_replica.specs.Replicas.{Seen, Moved, stays}
use Rattle.lucy_replica.specs.Submitting.{accepted_ids, next_id}
use Rattle.lucy_replica.specs.Suiting.{IsNext, IsOpener}
use Rattle.lucy_replica.specs.Answering.{stay_of, answer_of}
use Rattle.lucy_replica.specs.Views.{replica_of}
use Rattle.lucy_replica.proofs.Acceptance.{accepted_ids-append}
use Rattle.lucy_replica.proofs.Adopting.{with_moved_settled}
use Rattle.lucy_replica.proofs.LifeLemmas.{few_accepted}
use Rattle.lucy_replica.proofs.life.Life.lead.Goals as goal

pub overflow_add-self : goal.overflow_add-self
overflow_add-self c =
    let k = c.self.invariant in
    let r = replica_of c.self.inside in
    let opener = subst (λ (s : Seen). IsOpener s.replica (arc_value c.args.epoch)) (sym c.self.view_is) c.requires.opener in
    let want = k.settled.wanting opener.point opener.wanted_is in
    omega (arith, few_accepted c.self.inside want.call k want.call_is)

pub invariant_of-self : goal.invariant_of-self
invariant_of-self c =
    let a = c.self.inside in
    let k = c.self.invariant in
    let r = replica_of a in
    let epoch = arc_value c.args.epoch in
    let point = c.in-Some.point.tree in
    let next = subst (λ (s : Seen). IsNext s.replica epoch) (sym c.self.view_is) c.requires.next in
    let opener = subst (λ (s : Seen). IsOpener s.replica epoch) (sym c.self.view_is) c.requires.opener in
    let marked : a.mark ≡ Some c.in-Some.point = search rules in
    let wanted : r.wanted ≡ Some point = ap (λ m. option_map (λ (e : Expression). e.tree) m) marked in
    let kept : a.opening ≡ Some c.in-Some-take.start = search rules in
    let start = k.opening_is c.in-Some-take.start kept in
    let closings : map stay_of c.push_reserved.new.self.items ≡ stays r =
    rw (c.push_reserved.ensures.items, map-append, c.replace-epoch.ensures.value, c.replace-state.ensures.value, c.replace-expr.ensures.value, k.state_is) refl in
    let id = ap (λ (n : ℕ). let i : Id = record { replica = a.replica; count = n } in i) k.accepted_is in
    let replies : map answer_of c.push_reserved-2.new.self.items ≡ r.replies ++ Moved epoch point (next_id r) ∷ [] =
    rw (c.push_reserved-2.ensures.items, map-append) (ap (λ (e : Record). r.replies ++ Moved e point record { replica = a.replica; count = a.accepted } ∷ []) c.requires.second
    ∙ ap (λ (i : Id). r.replies ++ Moved epoch point i ∷ []) id) in
    record {
      settled = rw (closings, replies, c.take.ensures.after, c.replace-epoch.ensures.after, c.replace-expr.ensures.after, start)
          (with_moved_settled r epoch point k.settled next wanted opener.by_is);
      state_is = rw (c.replace-state.ensures.after, c.replace-epoch.ensures.after, c.replace-expr.ensures.after, start) c.requires.opening;
      plan_is = rw c.replace-epoch.ensures.after (k.plan_is ∙ sym next.plan_is);
      opening_is = λ opening h. let gone : None ≡ Some opening = sym c.take-2.ensures.after ∙ h in cc;
      accepted_is = rw (replies, accepted_ids-append) (omega (arith, length-append (accepted_ids r.replies) (next_id r ∷ []), k.accepted_is));
      depth_few = rw c.replace-epoch.ensures.after (subst (λ (plan : PlanParts). plan.depth ≤ 2048) (sym next.plan_is) k.depth_few);
    }
