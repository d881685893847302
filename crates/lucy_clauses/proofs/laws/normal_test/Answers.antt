use Rattle.lucy_clauses.proofs.NormalTests.{normal_test}
use Rattle.lucy_clauses.proofs.laws.normal_test.Goals as goal

pub returns : goal.returns
returns c = normal_test
