use Rattle.lucy_fraction.proofs.reducing.+gcd_of_narrow.Given as goal

abbrev pub decreases-gcd_of_narrow : goal.decreases-gcd_of_narrow
decreases-gcd_of_narrow l = l.b
