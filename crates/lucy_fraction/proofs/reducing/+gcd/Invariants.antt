use Rattle.lucy_fraction.proofs.reducing.+gcd.Given as goal

abbrev pub decreases-gcd : goal.decreases-gcd
decreases-gcd l = l.b
