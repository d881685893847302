use Rattle.std.specs.Arc.{arc_value}
use Rattle.lucy_stream.proofs.Fed.{at_end}
use Rattle.lucy_stream.proofs.verifying.verify.Goals as goal

pub returns : goal.returns
returns c =
    let fed = c.loop-rest.invariant in
    at_end (arc_value c.args.plan) c.args.text.now fed.0 c.loop-rest.rest.now c.loop-rest.stream c.finish.result fed.1 fed.2 c.loop-rest-test.false c.finish.ensures.whole
