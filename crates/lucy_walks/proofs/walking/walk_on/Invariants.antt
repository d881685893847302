use Rattle.std.proofs.Common.{[], ◌∷◌}
use Rattle.lucy_walks.specs.Entries.{tree_in}
use Rattle.lucy_walks.proofs.WalkLemmas.{Walking}
use Rattle.lucy_walks.proofs.walking.walk_on.Given as goal

abbrev pub invariant-loop-round : goal.invariant-loop-round
invariant-loop-round l = Walking l.plan l.goal l.length l.round l.pool.items l.chaos (tree_in l.fn.first ∷ []) l.fn.chaos
