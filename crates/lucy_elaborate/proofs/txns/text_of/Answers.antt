use Rattle.lucy_elaborate.proofs.NameLemmas.{text_no, text_yes}
use Rattle.lucy_elaborate.proofs.txns.text_of.Goals as goal

pub returns-in-Err : goal.returns-in-Err
returns-in-Err c = λ other. text_no c.args.name.now c.as_slice.result.now c.as_slice.ensures c.in-Err.ensures.cases.0

pub returns-in_ok-name-in-Ok : goal.returns-in_ok-name-in-Ok
returns-in_ok-name-in-Ok c =
    text_yes c.args.name.now c.as_slice.result.now c.in-Ok.text.now c.in_ok-name-in-Ok.name c.as_slice.ensures c.in-Ok.ensures.cases.1 c.in-Ok.ensures.cases.0 c.in_ok-name-in-Ok.ensures
