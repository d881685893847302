use Rattle.std.proofs.Common.{rules, append_assoc}
use Rattle.lucy_print.proofs.Laying.{laid_append, texts_are}
use Rattle.lucy_print.proofs.terms.put_product.Goals as goal

pub returns : goal.returns
returns c = search (rules, laid_append, texts_are, append_assoc)
