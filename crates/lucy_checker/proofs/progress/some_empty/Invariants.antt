use Rattle.std.proofs.Common.{◌≡◌, drop}
use Rattle.std.specs.List.{list_any}
use Rattle.lucy_cert.specs.Refuting.{is_empty}
use Rattle.lucy_checker.proofs.progress.some_empty.Given as goal

abbrev pub invariant-loop-clause : goal.invariant-loop-clause
invariant-loop-clause l =
    list_any is_empty l.clauses ≡ list_any is_empty (drop l.clause-index l.clauses)
