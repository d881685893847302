use Rattle.std.proofs.Common.{rules, ◌<◌, length, get_or, sym}
use Rattle.std.proofs.lemmas.Option.{slice_get-get_or}
use Rattle.lucy_replica.specs.Answering.{stay_of}
use Rattle.lucy_audit.proofs.Places.{mapped_at}
use Rattle.lucy_audit.proofs.Seating.{first_at, record_closed}
use Rattle.lucy_audit.proofs.kept.Kept.two_records.Goals as goal

pub returns : goal.returns
returns c =
    let first = c.in_ok-first.first.now in
    let closings = c.closings-closings.result.now in
    let within : c.args.number < length closings = search rules in
    let closing = get_or closings c.args.number c.index-closings-number.result in
    let there = slice_get-get_or closings c.args.number c.index-closings-number.result within in
    let before = record_closed first.replica c.args.number (stay_of closing) (mapped_at stay_of closings first.replica.closings c.args.number closing c.closings-closings.ensures there) in
    (first.replica, first_at c.args.self.now first c.in_ok-first.ensures.value, before, sym c.in_ok-after.ensures)
