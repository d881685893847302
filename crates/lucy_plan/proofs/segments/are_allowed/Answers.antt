use Rattle.std.proofs.Common.{◌≡◌, ◌<◌, true, false, length, pos, sym, ◌∙◌}
use Rattle.lucy_model.specs.Ranges.{allows}
use Rattle.lucy_plan.proofs.Steps.{asked, allowed_here}
use Rattle.lucy_plan.proofs.segments.are_allowed.Goals as goal

pub returns-then-not-allows : goal.returns-then-not-allows
returns-then-not-allows c =
    let leaf = c.index-object-i.result in
    let i = c.loop-i.i in
    let below : i < length c.args.raw.now = rw (← c.requires.even) at c.loop-i-test.true in
    let test : allows leaf c.get.result ≡ false = asked leaf c.get.result c.allows.result false (record { sfits = c.get.type_inv }) c.allows.ensures c.if-not-allows.true in
    sym (c.loop-i.invariant ∙ allowed_here c.args.object.now c.args.raw.now i leaf c.get.result (pos 0) false c.loop-i-test.true c.index-object-i.is below c.get.ensures test)

pub loop-i-preserved : goal.loop-i-preserved
loop-i-preserved c =
    let leaf = c.index-object-i.result in
    let i = c.loop-i.i in
    let below : i < length c.args.raw.now = rw (← c.requires.even) at c.loop-i-test.true in
    let test : allows leaf c.get.result ≡ true = asked leaf c.get.result c.allows.result true (record { sfits = c.get.type_inv }) c.allows.ensures c.if-not-allows.false in
    c.loop-i.invariant ∙ allowed_here c.args.object.now c.args.raw.now i leaf c.get.result (pos 0) true c.loop-i-test.true c.index-object-i.is below c.get.ensures test
