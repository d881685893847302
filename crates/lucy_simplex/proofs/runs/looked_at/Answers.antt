use Rattle.std.proofs.Common.{sym}
use Rattle.lucy_simplex.proofs.Running.{no_auxiliary, stuck_at, improves_at}
use Rattle.lucy_simplex.proofs.runs.looked_at.Goals as goal

pub returns-in_default : goal.returns-in_default
returns-in_default c = λ qs h. no_auxiliary qs c.args.lines.now h c.in_default.ensures.none

pub returns-in-Some-first_below : goal.returns-in-Some-first_below
returns-in-Some-first_below c = λ qs h.
    improves_at qs c.args.lines.now c.in-Some.place c.in-Some-first_below.entering c.index-lines-place.result h c.in-Some.ensures.found (sym c.index-lines-place.is) c.in-Some.ensures.basic c.in-Some-first_below.ensures

pub returns-in-None : goal.returns-in-None
returns-in-None c = λ qs h. stuck_at qs c.args.lines.now c.in-Some.place c.index-lines-place.result h c.in-Some.ensures.found (sym c.index-lines-place.is) c.in-Some.ensures.basic c.in-None.ensures
