use Rattle.std.proofs.Common.{rules, append_assoc}
use Rattle.lucy_print.proofs.Laying.{laid_append, texts_are}
use Rattle.lucy_print.proofs.objects.put_value.Goals as goal

pub returns-in_ok-put_names-in-Set : goal.returns-in_ok-put_names-in-Set
returns-in_ok-put_names-in-Set c = search (rules, laid_append, texts_are, append_assoc)
