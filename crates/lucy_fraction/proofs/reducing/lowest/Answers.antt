use Rattle.std.proofs.Math.Nat.{pos_of_dvd_of_pos}
use Rattle.lucy_fraction.proofs.Gcds.{lowest_terms, lowest_of_zero, lowest_of_whole}
use Rattle.lucy_fraction.proofs.reducing.lowest.Goals as goal

pub nonzero_div-result : goal.nonzero_div-result
nonzero_div-result c = pos_of_dvd_of_pos c.gcd-common.ensures.1 c.requires

pub nonzero_div-result-else-bottom-eq1 : goal.nonzero_div-result-else-bottom-eq1
nonzero_div-result-else-bottom-eq1 c = pos_of_dvd_of_pos c.gcd-common.ensures.1 c.requires

pub returns-then-size-eq0 : goal.returns-then-size-eq0
returns-then-size-eq0 c = lowest_of_zero c.args.size c.args.bottom c.if-size-eq0.true

pub returns-then-bottom-eq1 : goal.returns-then-bottom-eq1
returns-then-bottom-eq1 c = lowest_of_whole c.args.size c.args.bottom c.if-bottom-eq1.true

pub returns-else-bottom-eq1 : goal.returns-else-bottom-eq1
returns-else-bottom-eq1 c = lowest_terms c.args.size c.args.bottom c.gcd-common.result c.requires c.gcd-common.ensures
