use Rattle.std.proofs.Common.{◌∙◌}
use Rattle.lucy_report.proofs.OutcomeLemmas.{closings_named, lines_told}
use Rattle.lucy_report.proofs.outcome_lines.write_records_of.Goals as goal

pub write_closings-requires : goal.write_closings-requires
write_closings-requires c = closings_named c.args.names.now.segments c.closings.result.now c.args.life.now.replica c.closings.ensures c.requires

pub returns : goal.returns
returns c =
    lines_told c.args.names.now.segments c.closings.result.now c.args.life.now.replica c.deref.result.now _ _ _
    c.closings.ensures (c.deref.ensures ∙ c.epoch.ensures) c.in_ok-write_closings.ensures c.in_ok-write_record.ensures
