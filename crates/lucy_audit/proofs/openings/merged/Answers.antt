use Rattle.std.proofs.Common.{rules, ◌≡◌, ◌<◌, ◌∙◌, List, length, sym, ap, subst}
use Rattle.std.specs.Prelude.{Some, slice_get}
use Rattle.std.specs.Arc.{arc_value}
use Rattle.lucy_model.specs.declared.leaves.Leaf.{Leaf}
use Rattle.lucy_model.specs.Merging.{merged}
use Rattle.lucy_replica.specs.Replicas.{Seen, stays}
use Rattle.lucy_audit.proofs.Reopening.{merge_begun, merge_more, state_long}
use Rattle.lucy_audit.proofs.openings.merged.Goals as goal

pub loop-place-init : goal.loop-place-init
loop-place-init c =
    let is : c.in_ok-state.state ≡ arc_value c.state_at.result.now = search rules in
    merge_begun c.args.before.now c.args.number c.args.lives.now c.index-lives-0.result c.in_ok-state.state c.segment_is_whole.ensures c.requires.had c.requires.some
    (λ stay h. is ∙ c.state_at.ensures stay (subst (λ (l : Seen). slice_get (stays l.replica) c.args.number ≡ Some stay) (sym c.index-lives-0.is) h))

pub merge-requires-clause-right : goal.merge-requires-clause-right
merge-requires-clause-right c =
    let other = c.deref-in-loop-place.result.now in
    let within : c.loop-place.place < length c.args.lives.now = search rules in
    let object : c.as_slice-object.result.now ≡ c.args.before.now.plan.object = search rules in
    state_long c.args.before.now c.args.number c.args.lives.now c.loop-place.place c.index-lives-place.result other c.segment_is_whole.ensures c.requires.had within
    (λ stay h. c.deref-in-loop-place.ensures ∙ c.state_at-in-loop-place.ensures stay (subst (λ (l : Seen). slice_get (stays l.replica) c.args.number ≡ Some stay) (sym c.index-lives-place.is) h))
    ∙ ap (λ (leaves : List Leaf). length leaves) (sym object)

pub loop-place-preserved : goal.loop-place-preserved
loop-place-preserved c =
    let other = c.deref-in-loop-place.result.now in
    let within : c.loop-place.place < length c.args.lives.now = search rules in
    let object : c.as_slice-object.result.now ≡ c.args.before.now.plan.object = search rules in
    merge_more c.args.before.now c.args.number c.args.lives.now c.loop-place.place c.index-lives-place.result c.loop-place.state other c.in_ok-state-2.state
    c.segment_is_whole.ensures c.requires.had within
    (λ stay h. c.deref-in-loop-place.ensures ∙ c.state_at-in-loop-place.ensures stay (subst (λ (l : Seen). slice_get (stays l.replica) c.args.number ≡ Some stay) (sym c.index-lives-place.is) h))
    (c.in_ok-state-2.ensures ∙ ap (λ (leaves : List Leaf). merged leaves c.loop-place.state other) object)
    c.loop-place.invariant
