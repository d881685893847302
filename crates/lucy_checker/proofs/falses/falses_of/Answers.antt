use Rattle.lucy_checker.proofs.FalseAtoms.{moved_at}
use Rattle.lucy_checker.proofs.falses.falses_of.Goals as goal

pub loop-atom-preserved : goal.loop-atom-preserved
loop-atom-preserved c =
    moved_at c.loop-atom.falses c.add.new.self c.args.atoms.now c.loop-atom.atom-index c.atom-item.result c.in_ok-copied.field-0 c.loop-atom-test.true c.atom-item.is c.in_ok-add.ensures c.in_ok-copied.ensures c.loop-atom.invariant
