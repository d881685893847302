use Rattle.std.proofs.Common.{◌≡◌, drop}
use Rattle.std.specs.List.{list_all}
use Rattle.lucy_core.specs.Worlds.{are_calls_of}
use Rattle.lucy_core.proofs.fitting.are_lists_of.Given as goal

abbrev pub invariant-loop-calls : goal.invariant-loop-calls
invariant-loop-calls l = list_all (are_calls_of l.plan) (drop l.calls-index l.work) ≡ list_all (are_calls_of l.plan) l.work
