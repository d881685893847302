use Rattle.std.proofs.Common.{◌≡◌, ◌+◌, ◌^◌, ◌∷◌, drop, get_or, pos, rules, arith}
use Rattle.std.proofs.lemmas.Int.{ints, to_z-of_z}
use mir.Syntax.{w64, w128}
use mir.Val.{SFits, to_z}
use Rattle.lucy_clauses.proofs.Mapping.{drop-at, two_tests}
use Rattle.lucy_clauses.proofs.Weights.{grown_size}
use Rattle.lucy_clauses.specs.declared.parts.Part.{Part}
use Rattle.lucy_clauses.specs.Sums.{number_at}
use Rattle.lucy_clauses.specs.Formulas.{weight_at}
use Rattle.lucy_clauses.proofs.formulas.sum_of.Goals as goal

pub loop-part-preserved : goal.loop-part-preserved
loop-part-preserved c =
    let nil : Part = record { variable = 0; by = pos 0 } in
    let i = c.loop-part.part-index in
    let part = get_or c.args.parts.now i nil in
    let by_fits : SFits w128 part.by = search rules in
    let number_fits : SFits w64 (number_at c.args.numbers.now part.variable) = search rules in
    let result_fits : SFits w128 c.part_added-sum.result = search rules in
    let result_is = simp to_z-of_z at c.part_added-sum.ensures in
    let rest : drop i c.args.parts.now ≡ part ∷ drop (i + 1) c.args.parts.now = drop-at _ _ nil c.loop-part-test.true in
    let inv = rw rest at c.loop-part.invariant in
    simp to_z-of_z (omega (arith, ints, result_is, inv.0), grown_size (to_z w128 c.loop-part.sum-bits) part.by (number_at c.args.numbers.now part.variable) c.part_added-sum.result (weight_at c.args.numbers.now (drop (i + 1) c.args.parts.now)) (2 ^ 101) inv.1 result_is, (two_tests _ _ inv.2).1)
