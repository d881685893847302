use Rattle.std.proofs.Common.{◌≡◌, [], ◌∙◌, rules}
use Rattle.std.proofs.lemmas.Int.{to_z-of_z}
use mir.Syntax.{w128}
use mir.Val.{SFits}
use Rattle.lucy_simplex.specs.First.{unit}
use Rattle.lucy_simplex.proofs.FirstNumbers.{bound_pushed}
use Rattle.lucy_simplex.proofs.first.bound_numbers.Goals as goal

pub returns : goal.returns
returns c =
    let fits : SFits w128 c.bound_constant.result = search rules in
    let none : c.new-numbers.result.items ≡ [] = search rules in
    bound_pushed c.args.rows _ _ (unit c.args.count c.args.place) _ _ _ _ _ c.push_unit-3.new.all.items none c.in_ok-push_number.ensures c.in_ok-push_number-2.ensures c.in_ok-push_unit.ensures c.in_ok-push_unit-2.ensures c.in_ok-push_unit-3.ensures
    (to_z-of_z w128 c.bound_constant.result fits ∙ c.bound_constant.ensures)
