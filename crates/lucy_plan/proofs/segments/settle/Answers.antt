use Rattle.std.proofs.Common.{◌<◌, ◌∙◌, length, pos, subst, sym}
use Rattle.std.proofs.lemmas.List.{take_all}
use mir.Syntax.{w64}
use mir.Val.{SFits}
use Rattle.lucy_plan.specs.Segments.{IsStateNumber}
use Rattle.lucy_plan.proofs.Steps.{state_fits, cast_fits, copied_more}
use Rattle.lucy_plan.proofs.segments.settle.Goals as goal

pub overflow_cast-leaf-end : goal.overflow_cast-leaf-end
overflow_cast-leaf-end c = rw c.length-leaf-end.ensures (record { fits = c.requires.few })

pub overflow_cast-number : goal.overflow_cast-number
overflow_cast-number c =
    let below : c.loop-leaf.leaf < length c.args.raw.now = rw c.length-leaf-end.ensures at c.loop-leaf-test.true in
    cast_fits c.get-number.result (state_fits c.get-number.result (subst IsStateNumber (sym c.get-number.ensures) (c.requires.each c.loop-leaf.leaf (pos 0) below)))

pub loop-leaf-preserved : goal.loop-leaf-preserved
loop-leaf-preserved c =
    let below : c.loop-leaf.leaf < length c.args.raw.now = rw c.length-leaf-end.ensures at c.loop-leaf-test.true in
    let fits : SFits w64 c.get-number.result = state_fits c.get-number.result (subst IsStateNumber (sym c.get-number.ensures) (c.requires.each c.loop-leaf.leaf (pos 0) below)) in
    copied_more _ _ c.args.raw.now c.loop-leaf.leaf c.get-number.result c.loop-leaf.invariant below c.get-number.ensures fits c.in_ok-push.ensures.items

pub returns : goal.returns
returns c = c.from.ensures ∙ c.loop-leaf.invariant ∙ take_all c.loop-leaf.leaf c.args.raw.now (rw c.length-leaf-end.ensures at c.loop-leaf-test.false)
