use Rattle.lucy_calls.proofs.TextLoops.{call_more, named_more}
use Rattle.lucy_calls.proofs.work_text.write_calls.Goals as goal

pub loop-call-preserved : goal.loop-call-preserved
loop-call-preserved c = record {
  text = call_more c.args.names.now.txns c.args.calls.now c.loop-call.call-index c.call-item.result c.loop-call-test.true c.call-item.is c.args.replica c.loop-call.out.items _ _
      c.in_ok-write_call.ensures c.loop-call.invariant.text;
  named = named_more c.args.names.now.txns c.args.calls.now c.loop-call.call-index c.call-item.result c.loop-call-test.true c.call-item.is c.loop-call.invariant.named;
}
