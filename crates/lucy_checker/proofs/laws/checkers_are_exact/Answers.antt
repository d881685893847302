use Rattle.lucy_checker.proofs.ProgressLemmas.{checkers_are_exact}
use Rattle.lucy_checker.proofs.laws.checkers_are_exact.Goals as goal

pub returns : goal.returns
returns c = checkers_are_exact
