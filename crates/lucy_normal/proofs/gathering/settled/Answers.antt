use Rattle.std.proofs.Common.{◌≡◌, ◌++◌, length, ◌-◌, ap, sym, ◌∙◌, arith}
use Rattle.lucy_normal.specs.Joints.{within, other, one}
use Rattle.lucy_normal.proofs.Gatherings.{last_alone}
use Rattle.lucy_normal.proofs.Joins.{one_is}
use Rattle.lucy_normal.proofs.gathering.settled.Goals as goal

pub returns-in_ok-add-in-Some : goal.returns-in_ok-add-in-Some
returns-in_ok-add-in-Some c old more start_is flat_is =
    let size : length c.args.flat.now - length old ≡ 1 = omega (arith, c.if-added-ne1.false, c.saturating_sub-added.ensures, c.len.ensures, start_is) in
    let alone = last_alone old more c.pop.new.self c.args.flat.now c.in-Some.only flat_is c.in-Some.ensures size in (
      alone.0,
      c.in_ok-add-in-Some.ensures.ok ∙ ap (λ l. l ++ within c.other.result c.in-Some.only) c.new-parts.ensures ∙ ap (λ j. within j c.in-Some.only) c.other.ensures
          ∙ ap (within (other c.args.joint)) (sym (one_is c.args.joint c.in-Some.only) ∙ ap (one c.args.joint) (sym alone.1)),
    )
