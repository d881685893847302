use Rattle.std.proofs.Common.{arith, ◌<◌, ◌≤◌, length}
use Rattle.lucy_top.proofs.RunLemmas.{too_long_ends, absent_ends, failed_ends, gave, goes_on}
use Rattle.lucy_top.proofs.fetching.fetch_input.Goals as goal

pub returns-then-len-limit-clause-fetched : goal.returns-then-len-limit-clause-fetched
returns-then-len-limit-clause-fetched g c = λ told same next.
    let long : c.args.most < length c.in-Ok-Some.bytes.items = omega (arith, c.if-len-limit.true, c.len.ensures) in
    let journal = rw c.in-Ok-Some.field-0-is at c.in-Ok-Some.ensures.journal in
    let bytes = rw c.in-Ok-Some.field-0-is at c.in-Ok-Some.ensures.bytes in
    too_long_ends c.args.name.now c.args.most next told (g.I.Inputs.journal c.args.inputs.now) (g.I.Inputs.journal c.fetch.new.self) c.in-Ok-Some.bytes.items c.stop_refused.result
    journal (rw same bytes) long (c.stop_refused.ensures _ c.too_long.ensures)

pub returns-in-Ok-None-clause-fetched : goal.returns-in-Ok-None-clause-fetched
returns-in-Ok-None-clause-fetched g c = λ told same next.
    let journal = rw c.in-Ok-None.field-0-is at c.in-Ok-None.ensures.journal in
    let bytes = rw c.in-Ok-None.field-0-is at c.in-Ok-None.ensures.bytes in
    absent_ends c.args.name.now c.args.most next told (g.I.Inputs.journal c.args.inputs.now) (g.I.Inputs.journal c.fetch.new.self) c.stop_absent.result
    journal (rw same bytes) c.stop_absent.ensures

pub returns-in-Err-Failed-clause-fetched : goal.returns-in-Err-Failed-clause-fetched
returns-in-Err-Failed-clause-fetched g c = λ told same next.
    let journal = rw c.in-Err-Failed.field-0-is at c.in-Err-Failed.ensures.journal in
    failed_ends c.args.name.now c.args.most next told (g.I.Inputs.journal c.args.inputs.now) (g.I.Inputs.journal c.fetch.new.self) c.stop_failed.result
    journal c.stop_failed.ensures

pub returns-else-len-limit-clause-fetched : goal.returns-else-len-limit-clause-fetched
returns-else-len-limit-clause-fetched g c = λ told same next last r.
    let short : length c.in-Ok-Some.bytes.items ≤ c.args.most = omega (arith, c.if-len-limit.false, c.len.ensures) in
    let journal = rw c.in-Ok-Some.field-0-is at c.in-Ok-Some.ensures.journal in
    let bytes = rw c.in-Ok-Some.field-0-is at c.in-Ok-Some.ensures.bytes in
    goes_on c.args.name.now c.args.most next told (g.I.Inputs.journal c.args.inputs.now) (g.I.Inputs.journal c.fetch.new.self) last c.in-Ok-Some.bytes.items r
    (journal, gave told c.args.name.now c.args.most c.in-Ok-Some.bytes.items (rw same bytes) short)
