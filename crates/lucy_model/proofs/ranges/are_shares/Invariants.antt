use Rattle.std.proofs.Common.{◌≡◌, drop}
use Rattle.lucy_model.specs.Terms.{are_shares}
use Rattle.lucy_model.proofs.ranges.are_shares.Given as goal

abbrev pub invariant-loop-share : goal.invariant-loop-share
invariant-loop-share l = are_shares 0 l.end l.shares ≡ are_shares l.from l.end (drop l.share-index l.shares)
