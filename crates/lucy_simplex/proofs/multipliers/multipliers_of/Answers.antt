use Rattle.std.proofs.Common.{List, subst}
use Rattle.lucy_fraction.specs.Rationals.{Ratio}
use Rattle.lucy_simplex.specs.Widths.{StopsFor}
use Rattle.lucy_simplex.specs.Multipliers.{AreCommonsWide}
use Rattle.lucy_simplex.proofs.Commons.{behind_two}
use Rattle.lucy_simplex.proofs.multipliers.multipliers_of.Goals as goal

pub returns-in-Err-clause-wide : goal.returns-in-Err-clause-wide
returns-in-Err-clause-wide c = subst (λ (ps : List Ratio). StopsFor (AreCommonsWide c.args.variables ps) c.in-Err.stop) (behind_two c.args.numbers.now) c.in-Err.ensures.wide
