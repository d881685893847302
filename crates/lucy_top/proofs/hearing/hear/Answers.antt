use Rattle.std.proofs.Common.{◌≡◌, ◌≢◌, ◌⊎◌, ◌^◌, ◌<◌, ◌≤◌, ℕ, ◌+◌, length, get_or, arith, inl, inr}
use Rattle.std.specs.Io.KnownBytes.{Consumes}
use Rattle.lucy_top.proofs.HearingLemmas.{one_taken, line_passed, input_passed, long_heard, part_heard}
use Rattle.lucy_top.proofs.hearing.hear.Goals as goal
use Rattle.lucy_top.proofs.hearing.hear.Goals.{else-byte-ne10-via-then-byte-ne10+else-len-ge-MOST_LINE, else-byte-ne10-via-else-byte-ne10}

pub returns-then-len-ge-MOST_LINE-clause-hears : goal.returns-then-len-ge-MOST_LINE-clause-hears
returns-then-len-ge-MOST_LINE-clause-hears g c =
    let b = get_or c.take.new.buffer 0 0 in
    let eaten = one_taken (g.S.Source.left c.loop-bytes.source) (g.S.Source.left c.take.new.self) c.in-Ok.field-0 c.take.new.buffer c.take.auto.buffer c.in-Ok.ensures.bound.0 c.in-Ok.field-0-test.1 c.in-Ok.ensures.bytes.0 in
    let more : 65536 ≤ length c.loop-bytes.bytes.items = omega (arith, c.if-len-ge-MOST_LINE.true, c.len.ensures) in
    long_heard 65537 b c.loop-bytes.invariant eaten (line_passed (length c.loop-bytes.bytes.items) c.loop-bytes.room b c.if-byte-ne10.true more)

pub returns-then-room-eq0-clause-hears : goal.returns-then-room-eq0-clause-hears
returns-then-room-eq0-clause-hears g c =
    let b = get_or c.take.new.buffer 0 0 in
    let eaten = one_taken (g.S.Source.left c.loop-bytes.source) (g.S.Source.left c.take.new.self) c.in-Ok.field-0 c.take.new.buffer c.take.auto.buffer c.in-Ok.ensures.bound.0 c.in-Ok.field-0-test.1 c.in-Ok.ensures.bytes.0 in
    let few : (b ≡ 10) ⊎ (length c.loop-bytes.bytes.items < 65536) = elim c.else-byte-ne10.branch [
      | else-byte-ne10-via-then-byte-ne10+else-len-ge-MOST_LINE w ↦ inr (omega (arith, w.if-len-ge-MOST_LINE.false, w.len.ensures))
      | else-byte-ne10-via-else-byte-ne10 w ↦ inl w.if-byte-ne10.false
    ] in
    long_heard (2 ^ 20 + 1) b c.loop-bytes.invariant eaten (input_passed (length c.loop-bytes.bytes.items) c.loop-bytes.room b few c.if-room-eq0.true)

pub returns-in-Err-push-clause-hears : goal.returns-in-Err-push-clause-hears
returns-in-Err-push-clause-hears g c =
    let b = get_or c.take.new.buffer 0 0 in
    let eaten = one_taken (g.S.Source.left c.loop-bytes.source) (g.S.Source.left c.take.new.self) c.in-Ok.field-0 c.take.new.buffer c.take.auto.buffer c.in-Ok.ensures.bound.0 c.in-Ok.field-0-test.1 c.in-Ok.ensures.bytes.0 in
    let few : length c.loop-bytes.bytes.items < 65536 = elim c.else-byte-ne10.branch [
      | else-byte-ne10-via-then-byte-ne10+else-len-ge-MOST_LINE w ↦ omega (arith, w.if-len-ge-MOST_LINE.false, w.len.ensures)
      | else-byte-ne10-via-else-byte-ne10 w ↦ absurd (c.if-byte-eq10.false w.if-byte-ne10.false)
    ] in
    part_heard b c.loop-bytes.invariant eaten c.if-byte-eq10.false few c.if-room-eq0.false
