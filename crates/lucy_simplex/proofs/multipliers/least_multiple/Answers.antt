use Rattle.std.proofs.Math.Nat.{pos_of_dvd_of_pos}
use Rattle.std.proofs.Common.{arith}
use Rattle.lucy_simplex.proofs.Commons.{wide_multiple}
use Rattle.lucy_simplex.proofs.Multiples.{multiple_is}
use Rattle.lucy_simplex.proofs.multipliers.least_multiple.Goals as goal

pub nonzero_div-a : goal.nonzero_div-a
nonzero_div-a c = pos_of_dvd_of_pos c.gcd.ensures.0 c.requires.a

pub returns-then-multiple-le-MOST_COMMON-clause-least : goal.returns-then-multiple-le-MOST_COMMON-clause-least
returns-then-multiple-le-MOST_COMMON-clause-least c =
    multiple_is c.args.a c.args.b c.gcd.result c.product-multiple.result c.requires.a c.requires.b c.gcd.ensures c.product-multiple.ensures (omega arith)

pub returns-else-multiple-le-MOST_COMMON-clause-wide : goal.returns-else-multiple-le-MOST_COMMON-clause-wide
returns-else-multiple-le-MOST_COMMON-clause-wide c =
    wide_multiple c.args.a c.args.b c.gcd.result c.product-multiple.result c.requires.a c.requires.b c.gcd.ensures c.product-multiple.ensures (omega arith)
