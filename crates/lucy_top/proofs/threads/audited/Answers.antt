use Rattle.lucy_top.proofs.ThreadLemmas.{apart_differs}
use Rattle.lucy_top.proofs.threads.audited.Goals as goal

pub returns : goal.returns
returns c = apart_differs _ c.in_ok-audit.field-0 c.in-Apart.difference c.in_ok-audit.ensures c.in-Apart.is
