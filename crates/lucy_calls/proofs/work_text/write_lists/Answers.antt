use Rattle.lucy_calls.proofs.TextLoops.{list_more, lists_named_more}
use Rattle.lucy_calls.proofs.work_text.write_lists.Goals as goal

pub loop-replica-preserved : goal.loop-replica-preserved
loop-replica-preserved c = record {
  text = list_more c.args.names.now.txns c.args.lists.now c.loop-replica.replica c.index-lists-replica.result c.loop-replica-test.true c.index-lists-replica.is c.as_slice.result.now c.loop-replica.out.items _ _
      c.as_slice.ensures c.in_ok-write_calls.ensures c.loop-replica.invariant.text;
  named = lists_named_more c.args.names.now.txns c.args.lists.now c.loop-replica.replica c.index-lists-replica.result c.loop-replica-test.true c.index-lists-replica.is c.loop-replica.invariant.named;
}
