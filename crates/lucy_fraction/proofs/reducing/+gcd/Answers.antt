use Rattle.std.proofs.lemmas.Nat.Gcd.{IsGcd-from_mod}
use Rattle.lucy_fraction.proofs.reducing.+gcd.Goals as goal

pub returns-else-a : goal.returns-else-a
returns-else-a t c = IsGcd-from_mod c.args.a c.args.b c.gcd.result c.gcd.ensures
