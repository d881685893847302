use Rattle.std.proofs.Common.{◌∙◌, append_assoc}
use Rattle.std.specs.Prelude.{codes, decimal}
use Rattle.lucy_report.specs.LabelTexts.{not_reached}
use Rattle.lucy_report.proofs.label_lines.write_not_reached.Goals as goal

pub returns : goal.returns
unfolding not_reached
returns c = c.in_ok-write_counted.ensures ∙ append_assoc c.args.out.now.items (codes "not reached at ") (decimal c.args.at)
