use Rattle.std.proofs.lemmas.Int.{to_z-of_z}
use Rattle.lucy_clauses.proofs.Bounding.{single_normal}
use Rattle.lucy_clauses.proofs.bounds.single.Goals as goal

pub invariant_of-result : goal.invariant_of-result
invariant_of-result c =
    let by_fits = c.ranges.by in
    simp (c.in_ok-push.ensures.items, c.new-parts.ensures.items, to_z-of_z) (single_normal c.args.variable c.args.by c.requires)
