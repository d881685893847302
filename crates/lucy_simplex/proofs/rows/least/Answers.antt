use Rattle.std.proofs.Common.{◌≡◌, ◌+◌, ◌∷◌, drop, get_or, pos, rules, arith}
use Rattle.std.proofs.lemmas.Int.{ints, to_z-of_z}
use mir.Syntax.{w128}
use mir.Val.{SFits, to_z}
use Rattle.lucy_clauses.proofs.Mapping.{drop-at, two_tests}
use Rattle.lucy_clauses.specs.declared.parts.Part.{Part}
use Rattle.lucy_clauses.specs.Formulas.{size_at, weight}
use Rattle.lucy_simplex.proofs.RowSums.{kept_small, least_size, least_bound, least_of-cons}
use Rattle.lucy_simplex.proofs.rows.least.Goals as goal

pub loop-part-preserved : goal.loop-part-preserved
loop-part-preserved c =
    let nil : Part = record { variable = 0; by = pos 0 } in
    let i = c.loop-part.part-index in
    let bounds = c.args.bounds.now in
    let part = get_or c.args.parts.now i nil in
    let after = drop (i + 1) c.args.parts.now in
    let result_fits : SFits w128 c.least_added-sum.result = search rules in
    let result_is = c.least_added-sum.ensures in
    let rest : drop i c.args.parts.now ≡ part ∷ after = drop-at _ _ nil c.loop-part-test.true in
    let left = rw rest at c.loop-part.invariant.left in
    let small = rw rest at c.loop-part.invariant.small in
    let names = rw rest at c.loop-part.invariant.names in
    simp to_z-of_z (record {
      left = omega (arith, ints, result_is, left, least_of-cons bounds part after);
      small = kept_small (to_z w128 c.loop-part.sum-bits) part.by (least_bound bounds part) c.least_added-sum.result (size_at bounds part.variable) (weight bounds after) (weight bounds c.args.parts.now) small (least_size bounds part) result_is;
      names = (two_tests _ _ names).1;
    })
