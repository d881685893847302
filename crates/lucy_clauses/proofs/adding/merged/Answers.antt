use Rattle.std.proofs.Common.{◌≡◌, ◌+◌, ◌++◌, [], ◌∷◌, List, pos, drop, get_or, Some, ap, sym, ◌∙◌, subst}
use Rattle.std.proofs.lemmas.List.{drop_all}
use Rattle.std.proofs.lemmas.Int.{to_z-of_z}
use Rattle.lucy_clauses.specs.declared.parts.Part.{Part}
use Rattle.lucy_clauses.specs.Lines.{put_multiples}
use Rattle.lucy_clauses.proofs.Mapping.{drop-at}
use Rattle.lucy_clauses.proofs.Merges.{take_rest, Merging, merging_step}
use Rattle.lucy_clauses.proofs.adding.merged.Goals as goal

pub loop-part-preserved : goal.loop-part-preserved
loop-part-preserved c =
    let nil : Part = record { variable = 0; by = pos 0 } in
    let fits = c.ranges.by in
    let i = c.loop-part.part-index in
    let more = c.args.more.now in
    let parts = c.args.parts.now in
    let q = get_or more i nil in
    let left = drop (i + 1) more in
    let rest : drop i more ≡ q ∷ left = drop-at more i nil c.loop-part-test.true in
    let ensured = rw c.in-Some.is at c.in_ok-add_multiple.ensures in
    let multiplied = simp to_z-of_z at ensured in
    simp to_z-of_z (merging_step c.args.by q more parts left c.loop-part.sum.items c.add_multiple.new.sum.items c.loop-part.place c.in-Some.next
    (subst (λ (ps : List Part). Merging c.args.by more parts ps c.loop-part.sum.items c.loop-part.place) rest (simp to_z-of_z at c.loop-part.invariant)) multiplied.0 multiplied.1)

pub returns : goal.returns
returns c =
    let fits = c.ranges.by in
    let i = c.loop-part.part-index in
    let so_far = simp to_z-of_z at c.loop-part.invariant.same in
    let sum = c.loop-part.sum.items ++ drop c.loop-part.place c.args.parts.now in
    let none : drop i c.args.more.now ≡ [] = drop_all i c.args.more.now c.loop-part-test.false in
    let pushed = simp (take_rest c.loop-part.place c.args.parts.now) at c.in_ok-extend_from_slice.ensures.items in
    ap (λ (ps : List Part). Some ps) pushed ∙ ap (λ (ps : List Part). put_multiples c.args.by ps sum) (sym none) ∙ so_far
