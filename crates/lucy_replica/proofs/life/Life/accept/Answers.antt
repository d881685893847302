use Rattle.std.proofs.Common.{◌≡◌, ◌++◌, [], ◌∷◌, ℕ, Some, rules, sym, ◌∙◌, ap, subst, arith, map, length-append}
use Rattle.std.specs.Arc.{arc_value}
use Rattle.std.proofs.lemmas.List.{map-append}
use Rattle.lucy_expr.specs.Trees.{Start, Apply}
use Rattle.lucy_expr.specs.Expressions.{Expression}
use Rattle.lucy_expr.specs.declared.ids.Id.{Id}
use Rattle.lucy_replica.specs.Replicas.{Done, Seen}
use Rattle.lucy_replica.specs.Submitting.{accepted_ids, next_call, next_id, result_of, IsInside}
use Rattle.lucy_replica.specs.Answering.{answer_of}
use Rattle.lucy_replica.specs.Views.{replica_of}
use Rattle.lucy_replica.proofs.Lists.{expression_is}
use Rattle.lucy_replica.proofs.Acceptance.{accepted_ids-append}
use Rattle.lucy_replica.proofs.LifeLemmas.{few_accepted}
use Rattle.lucy_replica.proofs.Settling.{inside_parts, done_settled}
use Rattle.lucy_replica.proofs.life.Life.accept.Goals as goal

pub applied-requires-clause-count : goal.applied-requires-clause-count
applied-requires-clause-count c =
    let next = subst (λ (s : Seen). next_call s.replica ≡ Some c.args.call) (sym c.self.view_is) c.requires.next in
    omega (arith, few_accepted c.self.inside c.args.call c.self.invariant next)

pub applied-requires-clause-depth : goal.applied-requires-clause-depth
applied-requires-clause-depth c =
    let r = replica_of c.self.inside in
    let inside = subst (λ (s : Seen). IsInside s.replica.epoch s.replica.expression.tree c.args.call) (sym c.self.view_is) c.requires.inside in
    let shallow = (inside_parts r.epoch r.expression.tree c.args.call inside).shallow in
    omega (arith, shallow, c.self.invariant.depth_few)

pub overflow_add-self : goal.overflow_add-self
overflow_add-self c =
    let next = subst (λ (s : Seen). next_call s.replica ≡ Some c.args.call) (sym c.self.view_is) c.requires.next in
    omega (arith, few_accepted c.self.inside c.args.call c.self.invariant next)

pub invariant_of-self-2 : goal.invariant_of-self-2
invariant_of-self-2 c =
    let a = c.self.inside in
    let k = c.self.invariant in
    let r = replica_of a in
    let call = c.args.call in
    let next = subst (λ (s : Seen). next_call s.replica ≡ Some call) (sym c.self.view_is) c.requires.next in
    let inside = subst (λ (s : Seen). IsInside s.replica.epoch s.replica.expression.tree call) (sym c.self.view_is) c.requires.inside in
    let result = subst (λ (s : Seen). c.args.state ≡ result_of s.replica.epoch s.replica.expression.tree call) (sym c.self.view_is) c.requires.state in
    let epoch : arc_value c.in_ok-epoch.epoch ≡ r.epoch = search rules in
    let id = ap (λ (n : ℕ). let i : Id = record { replica = a.replica; count = n } in i) k.accepted_is in
    let grew : map answer_of c.push_reserved.new.self.items ≡ r.replies ++ Done r.epoch (next_id r) ∷ [] =
    rw (c.push_reserved.ensures.items, map-append, c.in_ok-reserve.ensures.items, epoch) (ap (λ (i : Id). r.replies ++ Done r.epoch i ∷ []) id) in
    let tree = c.in_ok-expr.ensures.tree ∙ ap (λ (i : Id). Apply i call r.expression.tree) id in
    let expression = expression_is c.in_ok-expr.expr (Apply (next_id r) call r.expression.tree) r.expression.room tree c.in_ok-expr.ensures.room in
    record {
      settled = rw (grew, expression) (done_settled r call k.settled next inside);
      state_is = rw (expression, c.in_ok-state.ensures.ok) result;
      plan_is = k.plan_is;
      opening_is = λ opening h.
          k.opening_is opening h ∙ ap (λ (n : ℕ). let start : Expression = record { tree = Start; room = n } in start) (sym c.in_ok-expr.ensures.room);
      accepted_is = rw (grew, accepted_ids-append) (omega (arith, length-append (accepted_ids r.replies) (next_id r ∷ []), k.accepted_is));
      depth_few = k.depth_few;
    }
