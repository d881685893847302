use Rattle.std.proofs.Common.{◌≡◌, drop}
use Rattle.std.specs.List.{list_all}
use Rattle.lucy_plan.specs.Calls.{call_fits}
use Rattle.lucy_core.proofs.fitting.are_fitting.Given as goal

abbrev pub invariant-loop-call : goal.invariant-loop-call
invariant-loop-call l = list_all (call_fits l.plan) (drop l.call-index l.calls) ≡ list_all (call_fits l.plan) l.calls
