use Rattle.std.proofs.Common.{◌<◌, ℕ, map, sym, ◌∙◌, subst, rules, arith}
use Rattle.std.proofs.lemmas.Int.{to_z-of_z}
use mir.Syntax.{w128}
use mir.Val.{SFits}
use Rattle.lucy_simplex.specs.First.{dense}
use Rattle.lucy_simplex.specs.Sure.{side_part}
use Rattle.lucy_simplex.proofs.Firsts.{length-dense}
use Rattle.lucy_simplex.proofs.FirstLines.{dense_at}
use Rattle.lucy_simplex.proofs.Finding.{listed_more, listed_whole}
use Rattle.lucy_simplex.proofs.solving.side_factors.Goals as goal

pub loop-variable-preserved : goal.loop-variable-preserved
loop-variable-preserved c =
    let sides = map (side_part c.args.side) c.args.parts.now in
    let fits : SFits w128 c.side_factor_of.result = search rules in
    listed_more (dense c.args.count sides) c.loop-variable.all.items c.push_number.new.all.items c.loop-variable.variable _ c.loop-variable.invariant c.in_ok-push_number.ensures
    (subst (λ (k : ℕ). c.loop-variable.variable < k) (sym (length-dense c.args.count sides)) c.loop-variable-test.true)
    (dense_at c.args.count sides c.loop-variable.variable c.loop-variable-test.true ∙ sym c.side_factor_of.ensures ∙ sym (to_z-of_z w128 c.side_factor_of.result fits))

pub returns : goal.returns
returns c =
    let sides = map (side_part c.args.side) c.args.parts.now in
    listed_whole (dense c.args.count sides) c.loop-variable.all.items c.loop-variable.variable c.loop-variable.invariant (let same = length-dense c.args.count sides in omega (arith, same))
