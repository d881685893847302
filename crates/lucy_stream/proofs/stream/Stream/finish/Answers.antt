use Rattle.lucy_stream.proofs.Fed.{whole, nothing_told}
use Rattle.lucy_stream.proofs.stream.Stream.finish.Goals as goal

pub returns-clause-whole : goal.returns-clause-whole
returns-clause-whole c plan text fed = whole c.judged_as_read.ensures plan text c.args.self c.finish.result c.answered.result c.finish.ensures c.answered.ensures fed

pub returns-clause-failed : goal.returns-clause-failed
returns-clause-failed c failed = nothing_told c.args.self c.finish.result c.answered.result c.finish.ensures c.answered.ensures failed
