use Rattle.std.proofs.Common.{◌≡◌, rules}
use Rattle.lucy_model.specs.Merging.{merged}
use Rattle.lucy_epochs.proofs.Merges.{merged_more}
use Rattle.lucy_epochs.proofs.deciding.merged_onto.Goals as goal

pub loop-part-preserved : goal.loop-part-preserved
loop-part-preserved c =
    let is : c.in_ok-state-2.state ≡ merged c.args.object.now c.loop-part.state c.part-item.result.state = search rules in
    merged_more c.args.object.now c.args.rest.now c.args.first.now c.loop-part.part-index c.part-item.result c.loop-part.state c.in_ok-state-2.state
    c.loop-part-test.true c.part-item.is c.loop-part.invariant is
