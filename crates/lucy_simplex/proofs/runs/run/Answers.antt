use Rattle.lucy_simplex.proofs.Running.{place_within, nonzero_there, one_some, first_run, first_too_wide}
use Rattle.lucy_simplex.proofs.Stopping.{ok_as, err_as}
use Rattle.lucy_simplex.proofs.runs.run.Goals as goal

pub pivoted-requires-clause-place : goal.pivoted-requires-clause-place
pivoted-requires-clause-place c =
    let b = c.requires.begins in
    place_within c.args.width c.args.place c.args.first.now b.lowest.0 (record { qs = b.qs; read = b.read; tableau = b.tableau }) b.lowest.1.there

pub pivoted-requires-clause-shape : goal.pivoted-requires-clause-shape
pivoted-requires-clause-shape c = (let b = c.requires.begins in record { qs = b.qs; read = b.read; tableau = b.tableau })

pub pivoted-requires-clause-nonzero : goal.pivoted-requires-clause-nonzero
pivoted-requires-clause-nonzero c =
    let b = c.requires.begins in
    nonzero_there c.args.width c.args.place 1 c.args.first.now b.lowest.0 (record { qs = b.qs; read = b.read; tableau = b.tableau }) b.lowest.1.there c.requires.width (one_some b.lowest.0 (b.ones c.args.place b.lowest.0 b.lowest.1.there))

pub returns-in-Ok-clause-ends : goal.returns-in-Ok-clause-ends
returns-in-Ok-clause-ends c =
    ok_as c.run_on.result _ _ (λ r f qs h lowest. f qs (first_run c.args.place qs c.args.first.now c.in-Ok.begun.items h lowest c.in-Ok.ensures.reads)) c.run_on.ensures.ends

pub returns-in-Ok-clause-wide : goal.returns-in-Ok-clause-wide
returns-in-Ok-clause-wide c =
    err_as c.run_on.result _ _ (λ e f qs h lowest. f qs (first_run c.args.place qs c.args.first.now c.in-Ok.begun.items h lowest c.in-Ok.ensures.reads)) c.run_on.ensures.wide

pub returns-in-Err-clause-wide : goal.returns-in-Err-clause-wide
returns-in-Err-clause-wide c = λ qs h lowest.
    first_too_wide c.args.place c.args.turns qs c.in-Err.stop c.requires.turns lowest (c.in-Err.ensures.wide qs h lowest.0 lowest.1.there)
