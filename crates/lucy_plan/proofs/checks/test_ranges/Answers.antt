use Rattle.std.proofs.Common.{◌≡◌, true, false, length, ◌∙◌, sym, SFits, w64, rules}
use Rattle.std.proofs.lemmas.Bool.{ltb-true, ltb-false}
use Rattle.lucy_model.specs.Ranges.{allows}
use Rattle.lucy_plan.proofs.Steps.{tested, fault_here, fault_past_numbers, fault_past_leaves}
use Rattle.lucy_plan.proofs.checks.test_ranges.Goals as goal

pub returns-in_default : goal.returns-in_default
returns-in_default c = c.loop-i.invariant ∙ fault_past_numbers c.args.object.now c.args.start.now c.loop-i.i (ltb-false c.loop-i.i (length c.args.start.now) (sym c.in_default.ensures.lookup.0))

pub returns-then-not-allows : goal.returns-then-not-allows
returns-then-not-allows c =
    let leaf = c.index-object-i.result in
    let x = c.in-Some.number.now in
    let fits : SFits w64 x = search rules in
    let test : allows leaf x ≡ false = tested leaf x c.from.result c.allows.result false fits (record { sfits = c.from.type_inv }) c.from.ensures c.allows.ensures c.if-not-allows.true in
    c.loop-i.invariant ∙ fault_here c.args.object.now c.args.start.now c.loop-i.i leaf x x false c.loop-i-test.true c.index-object-i.is (ltb-true _ _ (sym c.in-Some.ensures.lookup.0)) c.in-Some.ensures.lookup.1 test

pub loop-i-preserved : goal.loop-i-preserved
loop-i-preserved c =
    let leaf = c.index-object-i.result in
    let x = c.in-Some.number.now in
    let fits : SFits w64 x = search rules in
    let test : allows leaf x ≡ true = tested leaf x c.from.result c.allows.result true fits (record { sfits = c.from.type_inv }) c.from.ensures c.allows.ensures c.if-not-allows.false in
    c.loop-i.invariant ∙ fault_here c.args.object.now c.args.start.now c.loop-i.i leaf x x true c.loop-i-test.true c.index-object-i.is (ltb-true _ _ (sym c.in-Some.ensures.lookup.0)) c.in-Some.ensures.lookup.1 test

pub returns : goal.returns
returns c = c.loop-i.invariant ∙ fault_past_leaves c.args.object.now c.args.start.now c.loop-i.i c.loop-i-test.false
