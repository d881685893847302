use Rattle.std.proofs.Common.{◌^◌, ◌<◌, pos, get_or, arith, rules}
use Rattle.std.proofs.lemmas.Int.{to_z-of_z}
use mir.Syntax.{w64, w128}
use mir.Val.{SFits}
use Rattle.lucy_model.specs.Numbers.{IsWithin}
use Rattle.lucy_model.specs.declared.terms.Share.{Share}
use Rattle.lucy_model.proofs.Shares.{are_shares-at, shares_value_pushed, pushed_within}
use Rattle.lucy_model.proofs.values.shares_value.Goals as goal

pub at-number-requires-clause-place : goal.at-number-requires-clause-place
at-number-requires-clause-place g c =
    (are_shares-at 0 _ c.args.shares.now c.requires.shares c.loop-share.share-index (record { slot = 0; by = pos 0 }) c.loop-share-test.true).below

pub share_added-sum-requires-clause-by : goal.share_added-sum-requires-clause-by
share_added-sum-requires-clause-by g c =
    let share = get_or c.args.shares.now c.loop-share.share-index (record { slot = 0; by = pos 0 }) in
    let by_fits : SFits w64 share.by = search rules in
    let by_small : IsWithin 1000000 share.by = record { size = (are_shares-at 0 _ c.args.shares.now c.requires.shares c.loop-share.share-index (record { slot = 0; by = pos 0 }) c.loop-share-test.true).factor } in
    simp to_z-of_z by_small

pub loop-share-preserved : goal.loop-share-preserved
loop-share-preserved g c =
    let nil : Share = record { slot = 0; by = pos 0 } in
    let i = c.loop-share.share-index in
    let share = get_or c.args.shares.now i nil in
    let is = are_shares-at 0 _ c.args.shares.now c.requires.shares i nil c.loop-share-test.true in
    let by_fits : SFits w64 share.by = search rules in
    let number_fits : SFits w128 c.at-number.result = search rules in
    let sum_fits : SFits w128 c.share_added-sum.result = search rules in
    let slot_fits : share.slot < 2 ^ 32 = search rules in
    let added = simp to_z-of_z at c.share_added-sum.ensures in
    simp to_z-of_z (
      shares_value_pushed c.args.shares.now (g.N.Numbers.numbers c.args.numbers.now) i nil _ c.at-number.result _ c.loop-share-test.true c.at-number.ensures.value added c.loop-share.invariant.0,
      pushed_within i share _ c.at-number.result _ is.factor c.at-number.ensures.size c.loop-share.invariant.1 added,
      omega (arith, is.above, slot_fits),
    )
