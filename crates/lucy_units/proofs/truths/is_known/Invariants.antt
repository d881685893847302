use Rattle.std.proofs.Common.{◌≡◌, drop}
use Rattle.lucy_units.specs.Leads.{is_known}
use Rattle.lucy_units.proofs.truths.is_known.Given as goal

abbrev pub invariant-loop-known : goal.invariant-loop-known
invariant-loop-known l = is_known l.atom l.trues ≡ is_known l.atom (drop l.known-index l.trues)
