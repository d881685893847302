use Rattle.std.proofs.Common.{rules, ◌≡◌, ◌≢◌, ◌<◌, ◌≤◌, ◌∙◌, ℕ, length, get_or, sym, ap, subst, arith, List}
use Rattle.std.specs.Prelude.{Some, slice_get}
use Rattle.std.proofs.lemmas.Option.{slice_get-get_or, slice_get_within}
use Rattle.lucy_expr.specs.Trees.{Tree}
use Rattle.lucy_epochs.specs.Contributions.{Contribution}
use Rattle.lucy_replica.specs.Legal.{AreAccepted}
use Rattle.lucy_audit.specs.Checks.{left_of, IsKept}
use Rattle.lucy_audit.proofs.Places.{below_more, one_at}
use Rattle.lucy_audit.proofs.Seating.{lives_many, other_parts, part_kept}
use Rattle.lucy_audit.proofs.kept.Kept.compare_parts.Goals as goal

pub other_lengths-requires-clause-other : goal.other_lengths-requires-clause-other
other_lengths-requires-clause-other c =
    let kept = c.args.self.now in
    let parts = c.list-parts.result.now in
    let refused = c.requires.refused in
    let differ : length parts ≢ length kept.lives.now = search rules in
    other_parts (left_of kept) c.args.place refused.1 (length parts) (length kept.lives.now) refused.0 refused.2 c.args.parts.now refused.3 refused.4
    (ap (λ (list : List Contribution). length list) c.list-parts.ensures.parts) (sym (lives_many kept)) differ

pub compare_tree-requires-clause-kept : goal.compare_tree-requires-clause-kept
compare_tree-requires-clause-kept c =
    let left = left_of c.args.self.now in
    let parts = c.list-parts.result.now in
    let seat = c.loop-seat.seat in
    let refused = c.requires.refused in
    let within : seat < length parts = search rules in
    let part = get_or parts seat c.index-parts-seat.result in
    let there : slice_get c.args.parts.now seat ≡ Some part =
    subst (λ (list : List Contribution). slice_get list seat ≡ Some part) c.list-parts.ensures.parts (slice_get-get_or parts seat c.index-parts-seat.result within) in
    let number : c.number.result ≡ part.epoch.number = search rules in
    let tree : c.expr.result.now.tree ≡ part.expression.tree = search rules in
    let kept = part_kept left c.args.place refused.1 seat refused.0 refused.2 c.args.parts.now part refused.3 refused.4 there in
    subst (λ (n : ℕ). IsKept left n c.expr.result.now.tree) (sym number) (subst (λ (t : Tree). IsKept left part.epoch.number t) (sym tree) kept)

pub loop-seat-preserved : goal.loop-seat-preserved
loop-seat-preserved c =
    let left = left_of c.args.self.now in
    let parts = c.list-parts.result.now in
    let seat = c.loop-seat.seat in
    let within : seat < length parts = search rules in
    let part = get_or parts seat c.index-parts-seat.result in
    let there : slice_get c.args.parts.now seat ≡ Some part =
    subst (λ (list : List Contribution). slice_get list seat ≡ Some part) c.list-parts.ensures.parts (slice_get-get_or parts seat c.index-parts-seat.result within) in
    let number : c.number.result ≡ part.epoch.number = search rules in
    let tree : c.expr.result.now.tree ≡ part.expression.tree = search rules in
    let here : AreAccepted left.replicas part.epoch.number part.expression.tree =
    subst (λ (n : ℕ). AreAccepted left.replicas n part.expression.tree) number
    (subst (λ (t : Tree). AreAccepted left.replicas c.number.result t) tree c.in_ok-compare_tree.ensures.ok) in
    below_more (λ s. (p : Contribution) → slice_get c.args.parts.now s ≡ Some p → AreAccepted left.replicas p.epoch.number p.expression.tree) seat c.loop-seat.invariant
    (λ p at. subst (λ (q : Contribution). AreAccepted left.replicas q.epoch.number q.expression.tree) (one_at c.args.parts.now seat part p there at) here)

pub returns-clause-ok : goal.returns-clause-ok
returns-clause-ok c =
    let kept = c.args.self.now in
    let parts = c.list-parts.result.now in
    let same : length parts ≡ length kept.lives.now = search rules in
    let past : length parts ≤ c.loop-seat.seat = search rules in
    let many = ap (λ (list : List Contribution). length list) c.list-parts.ensures.parts in (
      sym many ∙ same ∙ sym (lives_many kept),
      λ seat part at. c.loop-seat.invariant seat (let within = slice_get_within c.args.parts.now seat part at in omega (arith, within, past, many)) part at,
    )
