use Rattle.lucy_simplex.proofs.multipliers.+gcd.Given as goal

abbrev pub decreases-gcd : goal.decreases-gcd
decreases-gcd l = l.b
