use Rattle.lucy_report.proofs.OutcomeLemmas.{first_named}
use Rattle.lucy_report.proofs.outcome_lines.write_records_in.Goals as goal

pub write_records_of-requires : goal.write_records_of-requires
write_records_of-requires c =
    let item = c.in-Some.ensures.item in
    first_named c.args.names.now.segments c.args.lives.now c.in-Some.life.now item.3.0 item.1 c.requires
