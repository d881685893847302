use Rattle.std.proofs.Common.{rules, append_assoc}
use Rattle.lucy_print.proofs.Laying.{laid_append, texts_are}
use Rattle.lucy_print.proofs.segments.put_except.Goals as goal

pub returns-in_ok-put_point-in-Some : goal.returns-in_ok-put_point-in-Some
returns-in_ok-put_point-in-Some c = search (rules, laid_append, texts_are, append_assoc)
