use Rattle.std.proofs.Common.{◌≡◌, List, [], ◌∷◌, ◌++◌, ◌≤◌, ◌^◌, pos, neg_ℤ, map, length, ap, sym, ◌∙◌, subst, rules}
use Rattle.std.proofs.lemmas.Int.{to_z-of_z}
use mir.Syntax.{w128}
use mir.Val.{SFits}
use Rattle.lucy_clauses.specs.declared.parts.Part.{Part}
use Rattle.lucy_clauses.specs.Sums.{Form}
use Rattle.lucy_clauses.specs.Parts.{total_size}
use Rattle.lucy_simplex.specs.First.{row_constant, dense, unit, zeros}
use Rattle.lucy_simplex.specs.Systems.{lows_of}
use Rattle.lucy_simplex.proofs.FirstLines.{narrow_size}
use Rattle.lucy_simplex.proofs.FirstNumbers.{row_pushed}
use Rattle.lucy_simplex.proofs.first.row_numbers.Goals as goal

pub push_factors-requires : goal.push_factors-requires
push_factors-requires c =
    let parts : c.deref.result.now ≡ c.args.row.now.parts = c.deref.ensures.value ∙ ap (λ (r : Form). r.parts) c.row.view_is in
    subst (λ (ps : List Part). total_size ps ≤ 2 ^ 101) (sym parts) (narrow_size c.args.bounds.now c.args.row.now c.requires)

pub returns : goal.returns
returns c =
    let n = length c.args.bounds.now in
    let items = c.push_unit-2.new.all.items in
    let fits : SFits w128 c.row_constant.result = search rules in
    let parts : c.deref.result.now ≡ c.args.row.now.parts = c.deref.ensures.value ∙ ap (λ (r : Form). r.parts) c.row.view_is in
    let none : c.new-numbers.result.items ≡ [] = search rules in
    subst (λ (ps : List Part). items ≡ row_constant (lows_of c.args.bounds.now) c.args.row.now ∷ pos 1 ∷ (map neg_ℤ (dense n ps) ++ (unit c.args.rows c.args.place ++ zeros n))) parts
    (row_pushed n _ _ (map neg_ℤ (dense n c.deref.result.now)) (unit c.args.rows c.args.place) _ _ _ _ _ items none c.in_ok-push_number.ensures c.in_ok-push_number-2.ensures c.in_ok-push_factors.ensures c.in_ok-push_unit.ensures c.in_ok-push_unit-2.ensures
    (to_z-of_z w128 c.row_constant.result fits ∙ c.row_constant.ensures))
