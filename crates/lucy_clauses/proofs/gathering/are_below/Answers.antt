use Rattle.std.proofs.Common.{◌≡◌, ◌<◌, ◌-◌, suc, length, pos, rules, arith}
use Rattle.lucy_clauses.specs.declared.parts.Part.{Part}
use Rattle.lucy_clauses.proofs.Merges.{last_below}
use Rattle.lucy_clauses.proofs.gathering.are_below.Goals as goal

pub returns : goal.returns
returns c =
    let nil : Part = record { variable = 0; by = pos 0 } in
    let ps = c.args.parts.now in
    let some : 0 < length ps = search rules in
    let size : length ps ≡ suc (length ps - 1) = omega arith in
    last_below c.args.variable (length ps - 1) ps nil size c.requires
