use Rattle.std.proofs.Common.{◌≡◌, drop}
use Rattle.lucy_gather.specs.Steps.{each_from}
use Rattle.lucy_gather.specs.Terms.{share_in}
use Rattle.lucy_gather.proofs.terms.shares_in.Given as goal

abbrev pub invariant-loop-place : goal.invariant-loop-place
invariant-loop-place l = each_from share_in l.place (drop l.place l.factors) l.shares ≡ each_from share_in 0 l.factors l.fn.shares
