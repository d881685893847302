use Rattle.std.proofs.Common.{rules, append_assoc}
use Rattle.lucy_print.proofs.Laying.{laid_append, texts_are}
use Rattle.lucy_print.proofs.terms.put_factor.Goals as goal

pub returns-in_ok-put_path-in-Size : goal.returns-in_ok-put_path-in-Size
returns-in_ok-put_path-in-Size c = search (rules, laid_append, texts_are, append_assoc)
