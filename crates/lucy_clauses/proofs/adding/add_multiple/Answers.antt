use Rattle.std.proofs.Common.{◌≡◌, true, ◌*ℤ◌, ap, sym, ◌∙◌}
use Rattle.std.proofs.lemmas.Int.{to_z-of_z}
use Rattle.lucy_clauses.specs.Parts.{is_zero, is_within}
use Rattle.lucy_clauses.specs.Lines.{multiple}
use Rattle.lucy_clauses.proofs.Merges.{some_is, placed_zero}
use Rattle.lucy_clauses.proofs.adding.add_multiple.Goals as goal

pub returns-then-is_zero : goal.returns-then-is_zero
returns-then-is_zero c =
    let q = multiple c.args.by c.args.part in
    let fits = c.ranges.by in
    let ensured = simp to_z-of_z at c.in-Some.ensures in
    let made = some_is (is_within (c.args.by *ℤ c.args.part.by)) q c.in-Some.added ensured in
    let zero_is : is_zero q ≡ true = ap is_zero made.1 ∙ sym c.is_zero.ensures ∙ c.if-is_zero.true in
    (made.0, placed_zero q c.args.parts.now c.args.sum.now.items c.args.place zero_is c.requires.gathered c.requires.below c.requires.place)
