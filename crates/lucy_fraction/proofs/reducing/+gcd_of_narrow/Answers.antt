use Rattle.std.proofs.lemmas.Nat.Gcd.{IsGcd-from_mod}
use Rattle.lucy_fraction.proofs.reducing.+gcd_of_narrow.Goals as goal

pub returns-else-b-eq0 : goal.returns-else-b-eq0
returns-else-b-eq0 t c = IsGcd-from_mod c.args.a c.args.b c.gcd_of_narrow.result c.gcd_of_narrow.ensures
