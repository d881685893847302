use Rattle.std.proofs.Common.{◌≡◌, ◌+◌, ◌<◌, ◌≤◌, ◌^◌, length}
use Rattle.lucy_calls.specs.Lines.{listing}
use Rattle.lucy_calls.specs.NextLines.{left}
use Rattle.lucy_calls.proofs.lines.Lines.next_line.Given as goal

abbrev pub invariant-loop-bytes : goal.invariant-loop-bytes
invariant-loop-bytes l = record {
  same : listing l.number l.rest ≡ left l.fn.self;
  few : l.number + length l.rest < 2 ^ 64;
  shorter : length l.rest ≤ length l.fn.self.rest.now;
}

abbrev pub decreases-loop-bytes : goal.decreases-loop-bytes
decreases-loop-bytes l = length l.rest
