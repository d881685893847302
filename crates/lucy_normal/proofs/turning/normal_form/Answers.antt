use Rattle.std.proofs.Common.{ap, ◌∙◌}
use Rattle.lucy_normal.specs.declared.joints.Joint.TheVariants as joint
use Rattle.lucy_normal.specs.Flat.{one_all}
use Rattle.lucy_normal.proofs.ProperForms.{side_is}
use Rattle.lucy_normal.proofs.turning.normal_form.Goals as goal

pub returns : goal.returns
returns c = c.one_all.ensures ∙ ap one_all (rw c.new-flat.ensures at c.in_ok-add_form.ensures.ok) ∙ side_is c.args.at.first joint.All c.args.positive c.args.condition.now
