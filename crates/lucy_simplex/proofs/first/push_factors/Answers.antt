use Rattle.std.proofs.Common.{◌<◌, ℕ, neg_ℤ, map, ap, sym, subst, ◌∙◌, rules, arith}
use Rattle.std.proofs.lemmas.Int.{to_z-of_z}
use mir.Syntax.{w128}
use mir.Val.{SFits}
use Rattle.lucy_simplex.specs.First.{dense}
use Rattle.lucy_simplex.proofs.FirstLines.{factor_there, factors_length}
use Rattle.lucy_simplex.proofs.FirstNumbers.{pushed_none, pushed_more, pushed_whole}
use Rattle.lucy_simplex.proofs.first.push_factors.Goals as goal

pub loop-variable-init : goal.loop-variable-init
loop-variable-init c = pushed_none c.args.all.now.items (map neg_ℤ (dense c.args.count c.args.parts.now))

pub loop-variable-preserved : goal.loop-variable-preserved
loop-variable-preserved c =
    let below = c.loop-variable-test.true in
    let factor_fits : SFits w128 c.factor_of.result = search rules in
    let fits : SFits w128 c.negative.result = search rules in
    pushed_more c.args.all.now.items (map neg_ℤ (dense c.args.count c.args.parts.now)) c.loop-variable.all.items c.push_number.new.all.items c.loop-variable.variable _ c.loop-variable.invariant c.in_ok-push_number.ensures
    (subst (λ (k : ℕ). c.loop-variable.variable < k) (sym (factors_length c.args.count c.args.parts.now)) below)
    (factor_there c.args.count c.args.parts.now c.loop-variable.variable below ∙ ap neg_ℤ (sym c.factor_of.ensures.value) ∙ ap neg_ℤ (sym (to_z-of_z w128 c.factor_of.result factor_fits))
    ∙ sym c.negative.ensures ∙ sym (to_z-of_z w128 c.negative.result fits))

pub returns : goal.returns
returns c =
    pushed_whole c.args.all.now.items (map neg_ℤ (dense c.args.count c.args.parts.now)) c.loop-variable.all.items c.loop-variable.variable c.loop-variable.invariant
    (let same = factors_length c.args.count c.args.parts.now in omega (arith, same))
