use Rattle.std.proofs.Common.{Some, ap, ◌∙◌}
use Rattle.lucy_cert.specs.Feeding.{begun}
use Rattle.lucy_judge.specs.Judges.{Judging}
use Rattle.std.proofs.Common.{None}
use Rattle.std.specs.Arc.{arc_value}
use Rattle.lucy_stream.specs.Hearings.{hearing}
use Rattle.lucy_stream.proofs.Fed.{fed_none}
use Rattle.lucy_stream.proofs.stream.Stream.new.Goals as goal

pub returns : goal.returns
returns c =
    fed_none c.cuts_do_not_matter.ensures (arc_value c.args.plan) (record { reader = c.new-reader.result })
    (c.new-reader.ensures ∙ ap (λ (j : Judging). Some (begun (hearing None j))) c.in_ok-judge.ensures)
