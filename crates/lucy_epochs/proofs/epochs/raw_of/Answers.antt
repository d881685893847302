use Rattle.std.proofs.Common.{◌≡◌, ◌∙◌, ◌<◌, length, ap, arith}
use Rattle.std.proofs.lemmas.List.{length-replicate}
use Rattle.lucy_epochs.proofs.RawLemmas.{one_more}
use Rattle.lucy_epochs.proofs.epochs.raw_of.Goals as goal

pub loop-leaf-preserved : goal.loop-leaf-preserved
loop-leaf-preserved c =
    let whole : length c.in_ok-raw.raw ≡ length c.args.state.now = ap length c.in_ok-raw.ensures ∙ length-replicate c.length.result _ ∙ c.length.ensures in
    let below : c.loop-leaf.leaf < length c.loop-leaf.raw = omega (arith, c.loop-leaf-test.true, c.length-leaf-end.ensures, whole, c.loop-leaf.invariant.0) in
    one_more c.loop-leaf.raw c.set.new.self c.args.state.now c.loop-leaf.leaf c.get.result c.from.result (record { sfits = c.get.type_inv }) (record { sfits = c.from.type_inv }) c.from.ensures c.get.ensures below c.loop-leaf.invariant c.set.ensures
