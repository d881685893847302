use Rattle.std.proofs.Common.{rules, ◌≡◌, ◌<◌, ◌∙◌, length, get_or, sym, ap, arith}
use Rattle.std.specs.Prelude.{Some}
use Rattle.std.proofs.lemmas.Option.{slice_get-get_or}
use Rattle.lucy_epochs.specs.Records.{Record}
use Rattle.lucy_replica.specs.Answering.{stay_of}
use Rattle.lucy_audit.proofs.Places.{mapped_at, mapped_many}
use Rattle.lucy_audit.proofs.Seating.{record_closed, record_present, record_past}
use Rattle.lucy_audit.proofs.kept.record_of.Goals as goal

pub returns-then-number-closings : goal.returns-then-number-closings
returns-then-number-closings c =
    let replica = c.args.life.now.replica in
    let closings = c.closings-closings.result.now in
    let within : c.args.number < length closings = search rules in
    let closing = get_or closings c.args.number c.index-closings-number.result in
    let there = slice_get-get_or closings c.args.number c.index-closings-number.result within in
    sym (record_closed replica c.args.number (stay_of closing) (mapped_at stay_of closings replica.closings c.args.number closing c.closings-closings.ensures there))

pub returns-then-number-closings-2 : goal.returns-then-number-closings-2
returns-then-number-closings-2 c =
    let replica = c.args.life.now.replica in
    let closings = c.closings-closings.result.now in
    let number : c.args.number ≡ length closings = search rules in
    let many = mapped_many stay_of closings replica.closings c.closings-closings.ensures in
    ap (λ (e : Record). Some e) c.epoch.ensures ∙ sym (record_present replica c.args.number (number ∙ many))

pub returns : goal.returns
returns c =
    let replica = c.args.life.now.replica in
    let closings = c.closings-closings.result.now in
    let many = mapped_many stay_of closings replica.closings c.closings-closings.ensures in
    let past : length closings < c.args.number = search rules in
    sym (record_past replica c.args.number (omega (arith, many, past)))
