use Rattle.std.proofs.Common.{◌≡◌, ◌++◌, drop, true}
use Rattle.lucy_calls.specs.Texts.{call_lines, are_named}
use Rattle.lucy_calls.proofs.work_text.write_calls.Given as goal

abbrev pub invariant-loop-call : goal.invariant-loop-call
invariant-loop-call l = record {
  text : l.out.items ++ call_lines l.names.txns l.replica (drop l.call-index l.calls) ≡ l.fn.out.items ++ call_lines l.names.txns l.replica l.calls;
  named : are_named l.names.txns (drop l.call-index l.calls) ≡ true;
}
