use Rattle.std.proofs.lemmas.Nat.Gcd.{IsGcd-from_mod}
use Rattle.lucy_simplex.proofs.multipliers.+gcd.Goals as goal

pub returns-else-b-eq0 : goal.returns-else-b-eq0
returns-else-b-eq0 t c = IsGcd-from_mod c.args.a c.args.b c.gcd.result c.gcd.ensures
