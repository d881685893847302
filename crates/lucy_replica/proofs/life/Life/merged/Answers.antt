use Rattle.std.proofs.Common.{rules}
use Rattle.lucy_replica.proofs.LifeLemmas.{state_length}
use Rattle.lucy_replica.proofs.life.Life.merged.Goals as goal

pub merge-requires-clause-left : goal.merge-requires-clause-left
merge-requires-clause-left c = let even = state_length c.self.inside c.self.invariant in search (rules, even)
