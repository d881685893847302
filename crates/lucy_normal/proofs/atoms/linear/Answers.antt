use Rattle.std.proofs.Common.{◌∙◌}
use Rattle.std.proofs.lemmas.Int.{to_z-of_z}
use Rattle.lucy_normal.proofs.NormalForms.{plain_linear}
use Rattle.lucy_normal.proofs.atoms.linear.Goals as goal

pub returns : goal.returns
returns c =
    let fits = c.ranges.bound in
    let form_is = simp to_z-of_z at c.in_ok-plain.ensures.form in
    c.of_plain.ensures ∙ plain_linear c.args.parts.now c.args.bound c.in_ok-plain.plain c.requires.sums form_is
