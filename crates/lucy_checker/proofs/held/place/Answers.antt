use Rattle.lucy_checker.proofs.HeldLemmas.{place_none}
use Rattle.lucy_checker.proofs.held.place.Goals as goal

pub returns-in-Err : goal.returns-in-Err
returns-in-Err c =
    place_none c.args.numbers.now c.args.number c.in-Err.field-0 c.binary_search.result c.binary_search.ensures.position c.requires c.in-Err.is
