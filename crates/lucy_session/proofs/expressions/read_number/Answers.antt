use Rattle.std.proofs.Common.{rules, SFits, w64, to_z-of_z}
use Rattle.lucy_session.proofs.expressions.read_number.Goals as goal

pub returns-in-Some-clause-within : goal.returns-in-Some-clause-within
returns-in-Some-clause-within c =
    let f : SFits w64 c.in-Some.number = search rules in
    let g : SFits w64 c.args.limits.lo = search rules in
    let k : SFits w64 c.args.limits.hi = search rules in
    simp to_z-of_z (simp to_z-of_z at c.in-Some.ensures.within)
