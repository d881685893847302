use Rattle.std.proofs.Common.{◌≡◌, None, arith}
use Rattle.std.proofs.lemmas.Grind.{common_steps}
use Rattle.lucy_clauses.specs.Lines.{unjustified_line}
use Rattle.lucy_clauses.proofs.Justified.{lines_hold}
use Rattle.lucy_cuts.proofs.derivations.derive.Goals as goal

pub returns-in_default-found-clause-sound : goal.returns-in_default-found-clause-sound
returns-in_default-found-clause-sound c =
    let none : unjustified_line c.args.clause.now.atoms c.args.ranges.now c.args.lines.now ≡ None = grind (arith, common_steps) in
    λ a within. lines_hold c.args.clause.now.atoms c.args.ranges.now c.args.lines.now a none within
