use Rattle.std.proofs.Common.{drop}
use Rattle.lucy_clauses.proofs.Merges.{Merging}
use Rattle.lucy_clauses.proofs.adding.merged.Given as goal

abbrev pub invariant-loop-part : goal.invariant-loop-part
invariant-loop-part l = Merging l.by l.more l.parts (drop l.part-index l.more) l.sum.items l.place
