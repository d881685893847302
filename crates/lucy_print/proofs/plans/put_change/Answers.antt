use Rattle.std.proofs.Common.{rules, append_assoc}
use Rattle.lucy_print.proofs.Laying.{laid_append, texts_are}
use Rattle.lucy_print.proofs.plans.put_change.Goals as goal

pub returns-in_ok-put_assigned-in-Assign : goal.returns-in_ok-put_assigned-in-Assign
returns-in_ok-put_assigned-in-Assign c = search (rules, laid_append, texts_are, append_assoc)

pub returns-in_ok-put_path-in-Insert : goal.returns-in_ok-put_path-in-Insert
returns-in_ok-put_path-in-Insert c = search (rules, laid_append, texts_are, append_assoc)
