use Rattle.std.proofs.Common.{arith}
use Rattle.lucy_calls.proofs.FieldLemmas.{last_is}
use Rattle.lucy_calls.proofs.fields.ends_spaced.Goals as goal

pub returns-in-len1-up : goal.returns-in-len1-up
returns-in-len1-up c = last_is c.args.line.now (omega arith)
