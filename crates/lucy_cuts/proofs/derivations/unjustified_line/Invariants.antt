use Rattle.std.proofs.Common.{◌≡◌, drop}
use Rattle.lucy_clauses.specs.Lines.{unjustified_line, first_unjustified}
use Rattle.lucy_cuts.proofs.derivations.unjustified_line.Given as goal

abbrev pub invariant-loop-i : goal.invariant-loop-i
invariant-loop-i l =
    unjustified_line l.clause.atoms l.ranges l.lines ≡ first_unjustified l.clause.atoms l.ranges l.i l.done.items l.ends (drop l.i l.lines)
