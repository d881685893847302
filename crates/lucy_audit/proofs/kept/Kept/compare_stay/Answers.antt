use Rattle.std.proofs.Common.{rules, ◌≡◌, ◌<◌, ◌∙◌, ℕ, [], ◌∷◌, length, get_or, sym, ap, subst, arith}
use Rattle.std.specs.Prelude.{Some, slice_get}
use Rattle.std.specs.Arc.{arc_value}
use Rattle.std.proofs.lemmas.Option.{slice_get-get_or}
use Rattle.lucy_expr.specs.Trees.{Tree}
use Rattle.lucy_replica.specs.Replicas.{present, stays}
use Rattle.lucy_replica.specs.Legal.{AreAccepted}
use Rattle.lucy_replica.specs.Answering.{stay_of}
use Rattle.lucy_replica.specs.declared.replies.Closing.{Closing}
use Rattle.lucy_audit.specs.Checks.{left_of, IsKept, IsStayCounted}
use Rattle.lucy_audit.proofs.Places.{front_at, last_at, mapped_at, mapped_many}
use Rattle.lucy_audit.proofs.Seating.{life_at, stay_kept, ok_so}
use Rattle.lucy_audit.proofs.Reaching.{stay_counted, stay_past}
use Rattle.lucy_audit.proofs.kept.Kept.compare_stay.Goals as goal

pub compare_tree-requires-clause-kept : goal.compare_tree-requires-clause-kept
compare_tree-requires-clause-kept c =
    let kept = c.args.self.now in
    let replica = (get_or kept.lives.now c.args.place c.index-self-place.result).replica in
    let closings = c.closings-closings.result.now in
    let closing = c.index-closings-number.result in
    let within : c.args.number < length closings = search rules in
    let read : slice_get closings c.args.number ≡ Some closing =
    slice_get-get_or closings c.args.number closing within ∙ ap (λ (x : Closing). Some x) (sym c.index-closings-number.is) in
    let there : slice_get (stays replica) c.args.number ≡ Some (stay_of closing) =
    front_at replica.closings (present replica ∷ []) c.args.number (stay_of closing) (mapped_at stay_of closings replica.closings c.args.number closing c.closings-closings.ensures read) in
    let number : c.number.result ≡ (arc_value closing.epoch).number = search rules in
    subst (λ (n : ℕ). IsKept (left_of kept) n closing.expr.tree) (sym number)
    (stay_kept (left_of kept) c.args.place c.args.number replica (stay_of closing) (life_at kept c.args.place c.index-self-place.result c.requires.within) there)

pub returns-then-number-closings-clause-ok : goal.returns-then-number-closings-clause-ok
returns-then-number-closings-clause-ok c =
    let kept = c.args.self.now in
    let left = left_of kept in
    let replica = (get_or kept.lives.now c.args.place c.index-self-place.result).replica in
    let closings = c.closings-closings.result.now in
    let closing = c.index-closings-number.result in
    let within : c.args.number < length closings = search rules in
    let read : slice_get closings c.args.number ≡ Some closing =
    slice_get-get_or closings c.args.number closing within ∙ ap (λ (x : Closing). Some x) (sym c.index-closings-number.is) in
    let there : slice_get (stays replica) c.args.number ≡ Some (stay_of closing) =
    front_at replica.closings (present replica ∷ []) c.args.number (stay_of closing) (mapped_at stay_of closings replica.closings c.args.number closing c.closings-closings.ensures read) in
    let number : c.number.result ≡ (arc_value closing.epoch).number = search rules in
    ok_so (AreAccepted left.replicas c.number.result closing.expr.tree) (IsStayCounted left c.args.place c.args.number) c.compare_tree.result
    (λ h. stay_counted left c.args.place c.args.number replica (stay_of closing) (life_at kept c.args.place c.index-self-place.result c.requires.within) there
    (subst (λ (n : ℕ). AreAccepted left.replicas n closing.expr.tree) number h))
    c.compare_tree.ensures.ok

pub compare_tree-requires-then-number-closings-2-clause-kept : goal.compare_tree-requires-then-number-closings-2-clause-kept
compare_tree-requires-then-number-closings-2-clause-kept c =
    let kept = c.args.self.now in
    let replica = (get_or kept.lives.now c.args.place c.index-self-place.result).replica in
    let closings = c.closings-closings.result.now in
    let at : c.args.number ≡ length closings = search rules in
    let many = mapped_many stay_of closings replica.closings c.closings-closings.ensures in
    let there : slice_get (stays replica) c.args.number ≡ Some (present replica) = ap (slice_get (stays replica)) (at ∙ many) ∙ last_at replica.closings (present replica) in
    let number : c.number-then-number-closings-2.result ≡ replica.epoch.number = search rules in
    let tree : c.expr.result.now.tree ≡ replica.expression.tree = search rules in
    subst (λ (n : ℕ). IsKept (left_of kept) n c.expr.result.now.tree) (sym number)
    (subst (λ (t : Tree). IsKept (left_of kept) replica.epoch.number t) (sym tree)
    (stay_kept (left_of kept) c.args.place c.args.number replica (present replica) (life_at kept c.args.place c.index-self-place.result c.requires.within) there))

pub returns-then-number-closings-2-clause-ok : goal.returns-then-number-closings-2-clause-ok
returns-then-number-closings-2-clause-ok c =
    let kept = c.args.self.now in
    let left = left_of kept in
    let replica = (get_or kept.lives.now c.args.place c.index-self-place.result).replica in
    let closings = c.closings-closings.result.now in
    let at : c.args.number ≡ length closings = search rules in
    let many = mapped_many stay_of closings replica.closings c.closings-closings.ensures in
    let there : slice_get (stays replica) c.args.number ≡ Some (present replica) = ap (slice_get (stays replica)) (at ∙ many) ∙ last_at replica.closings (present replica) in
    let number : c.number-then-number-closings-2.result ≡ replica.epoch.number = search rules in
    let tree : c.expr.result.now.tree ≡ replica.expression.tree = search rules in
    ok_so (AreAccepted left.replicas c.number-then-number-closings-2.result c.expr.result.now.tree) (IsStayCounted left c.args.place c.args.number)
    c.compare_tree-then-number-closings-2.result
    (λ h. stay_counted left c.args.place c.args.number replica (present replica) (life_at kept c.args.place c.index-self-place.result c.requires.within) there
    (subst (λ (n : ℕ). AreAccepted left.replicas n replica.expression.tree) number
    (subst (λ (t : Tree). AreAccepted left.replicas c.number-then-number-closings-2.result t) tree h)))
    c.compare_tree-then-number-closings-2.ensures.ok

pub returns-clause-ok : goal.returns-clause-ok
returns-clause-ok c =
    let kept = c.args.self.now in
    let replica = (get_or kept.lives.now c.args.place c.index-self-place.result).replica in
    let closings = c.closings-closings.result.now in
    let many = mapped_many stay_of closings replica.closings c.closings-closings.ensures in
    let past : length closings < c.args.number = search rules in
    stay_past (left_of kept) c.args.place c.args.number replica (life_at kept c.args.place c.index-self-place.result c.requires.within) (omega (arith, many, past))
