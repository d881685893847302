use Rattle.std.proofs.Common.{rules, ◌≡◌, sym, subst}
use Rattle.std.specs.Arc.{arc_value}
use Rattle.lucy_epochs.specs.Collections.{parts_of}
use Rattle.lucy_cluster.specs.Changes.{IsNextOf}
use Rattle.lucy_cluster.proofs.Noting.{rule_next, last_number}
use Rattle.lucy_cluster.proofs.deciding.decide.Goals as goal

pub note-requires : goal.note-requires
note-requires c =
    let records = c.args.table.now.records in
    let epoch = c.args.collect.now.epoch in
    let last = arc_value c.last.result.now in
    let same : last ≡ epoch = search rules in
    subst (IsNextOf records) (sym c.in_ok-ruling.ensures)
    (rule_next records epoch (parts_of c.args.collect.now.seats) c.args.wanted.now (last_number records epoch last c.list-records.ensures.numbered c.last.ensures same))
