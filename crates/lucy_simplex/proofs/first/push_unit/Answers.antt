use Rattle.std.proofs.Common.{◌<◌, ℕ, sym, subst, ◌∙◌, rules, arith}
use Rattle.std.proofs.lemmas.Int.{to_z-of_z}
use mir.Syntax.{w128}
use mir.Val.{SFits}
use Rattle.lucy_simplex.specs.First.{unit}
use Rattle.lucy_simplex.proofs.FirstLines.{unit_there, units_length}
use Rattle.lucy_simplex.proofs.FirstNumbers.{pushed_none, pushed_more, pushed_whole}
use Rattle.lucy_simplex.proofs.first.push_unit.Goals as goal

pub loop-place-init : goal.loop-place-init
loop-place-init c = pushed_none c.args.all.now.items (unit c.args.count c.args.own)

pub loop-place-preserved : goal.loop-place-preserved
loop-place-preserved c =
    let below = c.loop-place-test.true in
    let fits : SFits w128 c.unit_at.result = search rules in
    pushed_more c.args.all.now.items (unit c.args.count c.args.own) c.loop-place.all.items c.push_number.new.all.items c.loop-place.place _ c.loop-place.invariant c.in_ok-push_number.ensures
    (subst (λ (k : ℕ). c.loop-place.place < k) (sym (units_length c.args.count c.args.own)) below)
    (unit_there c.args.count c.args.own c.loop-place.place below ∙ sym c.unit_at.ensures ∙ sym (to_z-of_z w128 c.unit_at.result fits))

pub returns : goal.returns
returns c =
    pushed_whole c.args.all.now.items (unit c.args.count c.args.own) c.loop-place.all.items c.loop-place.place c.loop-place.invariant (let same = units_length c.args.count c.args.own in omega (arith, same))
