use Rattle.std.proofs.Common.{◌≡◌, ◌+◌, ◌≤◌, length}
use Rattle.std.specs.Prelude.{fold}
use Rattle.lucy_cert.specs.Reading.{byte_after}
use Rattle.lucy_cert.proofs.state.text_after.Given as goal

abbrev pub invariant-loop-line : goal.invariant-loop-line
invariant-loop-line g l = record {
  same : fold (byte_after g.T.Taker.taken) l.state l.rest ≡ fold (byte_after g.T.Taker.taken) l.fn.state l.text;
  few : l.state.lines + length l.rest ≤ l.fn.state.lines + length l.text;
}

abbrev pub decreases-loop-line : goal.decreases-loop-line
decreases-loop-line g l = length l.rest
