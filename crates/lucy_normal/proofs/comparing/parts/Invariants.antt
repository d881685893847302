use Rattle.std.proofs.Common.{◌≡◌, ◌++◌, drop, true}
use Rattle.lucy_normal.specs.Normals.{placed_all, are_slots}
use Rattle.lucy_normal.proofs.comparing.parts.Given as goal

abbrev pub invariant-loop-share : goal.invariant-loop-share
invariant-loop-share l =
    (placed_all l.at.first l.shares ≡ l.parts.items ++ placed_all l.at.first (drop l.share-index l.shares))
    × (are_slots l.at.leaves (drop l.share-index l.shares) ≡ true)
