use Rattle.lucy_simplex.proofs.Running.{entering_within, place_within, nonzero_there, falls_some, next_after, choice_too_wide, pivot_too_wide}
use Rattle.lucy_simplex.proofs.Stopping.{ok_as, err_as}
use Rattle.lucy_simplex.proofs.runs.stepped.Goals as goal

pub pivoted-requires-clause-place : goal.pivoted-requires-clause-place
pivoted-requires-clause-place c =
    let leaves = c.in-Ok.ensures.leaves c.requires.shape.qs c.requires.shape.read in
    place_within c.args.width c.in-Ok.place c.args.lines.now leaves.0 c.requires.shape leaves.1.there

pub pivoted-requires-clause-nonzero : goal.pivoted-requires-clause-nonzero
pivoted-requires-clause-nonzero c =
    let leaves = c.in-Ok.ensures.leaves c.requires.shape.qs c.requires.shape.read in
    nonzero_there c.args.width c.in-Ok.place c.args.entering c.args.lines.now leaves.0 c.requires.shape leaves.1.there
    (entering_within c.args.width c.args.auxiliary c.args.entering c.args.lines.now c.requires.shape c.requires.improves) (falls_some c.args.entering leaves.0 leaves.1.falls)

pub returns-in-Ok-clause-next : goal.returns-in-Ok-clause-next
returns-in-Ok-clause-next c =
    ok_as c.pivoted.result _ _ (λ v f qs h. next_after c.in-Ok.place c.args.entering c.args.auxiliary qs c.args.lines.now v.items h (c.requires.improves qs h) (c.in-Ok.ensures.leaves qs h) f) c.pivoted.ensures.reads

pub returns-in-Ok-clause-wide : goal.returns-in-Ok-clause-wide
returns-in-Ok-clause-wide c =
    err_as c.pivoted.result _ _
    (λ e f qs h. (let leaves = c.in-Ok.ensures.leaves qs h in pivot_too_wide c.in-Ok.place c.args.entering c.args.auxiliary qs e (c.requires.improves qs h) leaves (f qs h leaves.0 leaves.1.there))) c.pivoted.ensures.wide

pub returns-in-Err-clause-wide : goal.returns-in-Err-clause-wide
returns-in-Err-clause-wide c = λ qs h. choice_too_wide c.args.entering c.args.auxiliary qs c.in-Err.stop (c.requires.improves qs h) (c.in-Err.ensures.wide qs h)
