use Rattle.std.proofs.lemmas.Int.{to_z-of_z}
use Rattle.lucy_normal.proofs.NormalForms.{double_normal}
use Rattle.lucy_normal.proofs.atoms.double.Goals as goal

pub invariant_of-result : goal.invariant_of-result
invariant_of-result c =
    let by_fits = c.ranges.by in
    let other_fits = c.ranges.other in
    simp (c.in_ok-push-2.ensures.items, c.in_ok-push.ensures.items, c.new-parts.ensures.items, to_z-of_z)
    (double_normal c.args.v c.args.w c.args.by c.args.other c.requires.ascending c.requires.by c.requires.other)
