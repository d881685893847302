use Rattle.std.proofs.Common.{◌∙◌, sym}
use Rattle.lucy_checker.proofs.FalseAtoms.{found_open, passed_false}
use Rattle.lucy_checker.proofs.propagation.first_open.Goals as goal

pub returns-then-not-contains : goal.returns-then-not-contains
returns-then-not-contains c =
    c.loop-i.invariant ∙ found_open c.args.falses.now c.args.atoms.now c.loop-i.i c.index-atoms-i.result c.loop-i-test.true c.index-atoms-i.is (sym c.contains.ensures ∙ c.if-not-contains.true)

pub loop-i-preserved : goal.loop-i-preserved
loop-i-preserved c =
    c.loop-i.invariant ∙ passed_false c.args.falses.now c.args.atoms.now c.loop-i.i c.index-atoms-i.result c.loop-i-test.true c.index-atoms-i.is (sym c.contains.ensures ∙ c.if-not-contains.false)
