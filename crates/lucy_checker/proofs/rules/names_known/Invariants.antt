use Rattle.std.proofs.Common.{◌≡◌, drop}
use Rattle.std.specs.List.{list_all}
use Rattle.lucy_clauses.specs.Sums.{Form}
use Rattle.lucy_clauses.specs.Formulas.{names_below}
use Rattle.lucy_cert.specs.Justified.{names_known}
use Rattle.lucy_checker.proofs.rules.names_known.Given as goal

abbrev pub invariant-loop-atom : goal.invariant-loop-atom
invariant-loop-atom l =
    names_known l.count l.clause ≡ list_all (λ (t : Form). names_below l.count t.parts) (drop l.atom-index l.atom-items)
