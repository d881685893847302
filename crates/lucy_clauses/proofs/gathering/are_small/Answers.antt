use Rattle.std.proofs.Common.{drop, ap}
use Rattle.std.proofs.lemmas.List.{drop_all}
use Rattle.lucy_clauses.specs.Parts.{total_size}
use Rattle.lucy_clauses.proofs.GatheredParts.{counted, small_stays}
use Rattle.lucy_clauses.proofs.gathering.are_small.Goals as goal

pub returns-clause-stays : goal.returns-clause-stays
returns-clause-stays c =
    let ps = c.args.parts.now in
    let i = c.loop-part.part-index in
    λ small. small_stays ps (counted (total_size ps) c.loop-part.total (total_size (drop i ps)) c.loop-part.invariant.1 (ap total_size (drop_all i ps c.loop-part-test.false)) small)
