use Rattle.std.proofs.Common.{◌≡◌, ◌*◌, ◌^◌, ◌≤◌, ◌+ℤ◌, drop}
use Rattle.lucy_model.specs.Numbers.{IsWithin}
use Rattle.lucy_model.specs.Terms.{shares_value}
use Rattle.lucy_model.proofs.values.shares_value.Given as goal

abbrev pub invariant-loop-share : goal.invariant-loop-share
invariant-loop-share g l =
    let xs = g.N.Numbers.numbers l.numbers in
    (l.sum +ℤ shares_value (drop l.share-index l.shares) xs ≡ shares_value l.shares xs)
    × IsWithin (l.share-index * (1000000 * 2 ^ 69)) l.sum
    × (l.share-index ≤ 2 ^ 32)
