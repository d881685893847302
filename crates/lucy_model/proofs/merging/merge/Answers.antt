use Rattle.std.proofs.Common.{length, pos, ◌∙◌, ap, get_or, rules}
use Rattle.std.proofs.lemmas.Int.{to_z-of_z}
use mir.Syntax.{w64}
use mir.Val.{SFits}
use Rattle.lucy_model.proofs.MergingLemmas.{merged_pushed}
use Rattle.lucy_model.proofs.merging.merge.Goals as goal

pub loop-i-preserved : goal.loop-i-preserved
loop-i-preserved c =
    let xs = c.as_slice-left.result.now in
    let ys = c.as_slice-right.result.now in
    let left_fits : SFits w64 (get_or xs c.loop-i.i (pos 0)) = search rules in
    let right_fits : SFits w64 (get_or ys c.loop-i.i (pos 0)) = search rules in
    let result_fits : SFits w64 c.merged_number-number.result = search rules in
    let number = simp to_z-of_z at c.merged_number-number.ensures in
    rw c.in_ok-push.ensures.items
    (simp to_z-of_z (merged_pushed c.args.object.now xs ys c.loop-i.numbers.items _ c.loop-i.i c.index-object-i.result c.merged_number-number.result c.loop-i-test.true (ap length c.as_slice-left.ensures ∙ c.requires.left) (ap length c.as_slice-right.ensures ∙ c.requires.right) c.index-object-i.is number c.loop-i.invariant))
