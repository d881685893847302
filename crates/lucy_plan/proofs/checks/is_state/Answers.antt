use Rattle.std.proofs.Common.{◌<◌, ◌≤◌, true, false, length, get_or, pos, sym, ◌∙◌, ap, SFits, w64, rules}
use Rattle.lucy_model.specs.Ranges.{all_allowed}
use Rattle.lucy_plan.proofs.Ranges.{uneven}
use Rattle.lucy_plan.proofs.Steps.{next_allowed, allowed_end}
use Rattle.lucy_plan.proofs.checks.is_state.Goals as goal

pub returns-then-object-numbers : goal.returns-then-object-numbers
returns-then-object-numbers c = rw (← c.as_slice-numbers.ensures) (sym (uneven c.args.object.now c.as_slice-numbers.result.now c.if-object-numbers.true))

pub returns-then-not-allows : goal.returns-then-not-allows
returns-then-not-allows c =
    let xs = c.as_slice-numbers.result.now in
    let below : c.loop-i.i < length xs = rw c.if-object-numbers.false at c.loop-i-test.true in
    let fits : SFits w64 (get_or xs c.loop-i.i (pos 0)) = search rules in
    sym (ap (all_allowed c.args.object.now) (sym c.as_slice-numbers.ensures) ∙ c.loop-i.invariant
    ∙ next_allowed c.args.object.now xs c.loop-i.i c.index-object-i.result c.from.result c.allows.result false c.loop-i-test.true c.index-object-i.is below
    fits (record { sfits = c.from.type_inv }) c.from.ensures c.allows.ensures c.if-not-allows.true)

pub loop-i-preserved : goal.loop-i-preserved
loop-i-preserved c =
    let xs = c.as_slice-numbers.result.now in
    let below : c.loop-i.i < length xs = rw c.if-object-numbers.false at c.loop-i-test.true in
    let fits : SFits w64 (get_or xs c.loop-i.i (pos 0)) = search rules in
    c.loop-i.invariant
    ∙ next_allowed c.args.object.now xs c.loop-i.i c.index-object-i.result c.from.result c.allows.result true c.loop-i-test.true c.index-object-i.is below
    fits (record { sfits = c.from.type_inv }) c.from.ensures c.allows.ensures c.if-not-allows.false

pub returns : goal.returns
returns c =
    let xs = c.as_slice-numbers.result.now in
    let done : length xs ≤ c.loop-i.i = rw c.if-object-numbers.false at c.loop-i-test.false in
    sym (ap (all_allowed c.args.object.now) (sym c.as_slice-numbers.ensures) ∙ c.loop-i.invariant ∙ allowed_end c.args.object.now xs c.loop-i.i c.loop-i-test.false done)
