use Rattle.std.proofs.Common.{List, sym, subst}
use Rattle.lucy_simplex.specs.declared.lines.Line.{Line}
use Rattle.lucy_simplex.specs.First.{first_tableau}
use Rattle.lucy_simplex.specs.Reading.{AreRead}
use Rattle.lucy_simplex.proofs.EndStops.{first_somewhere}
use Rattle.lucy_simplex.proofs.solving.pivoting.Goals as goal

pub run_from-requires-clause-first : goal.run_from-requires-clause-first
run_from-requires-clause-first c = subst (λ (xs : List Line). AreRead (first_tableau c.args.rows.now c.args.bounds.now) xs) (sym c.as_slice.ensures.value) c.in-Ok.ensures.read

pub returns-in-Err-clause-wide : goal.returns-in-Err-clause-wide
returns-in-Err-clause-wide c = first_somewhere c.args.rows.now c.args.bounds.now c.args.turns c.in-Err.stop c.in-Err.ensures.wide
