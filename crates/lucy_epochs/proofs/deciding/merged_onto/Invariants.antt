use Rattle.lucy_epochs.proofs.Merges.{IsMergedTo}
use Rattle.lucy_epochs.proofs.deciding.merged_onto.Given as goal

abbrev pub invariant-loop-part : goal.invariant-loop-part
invariant-loop-part l = IsMergedTo l.object l.rest l.first l.part-index l.state
