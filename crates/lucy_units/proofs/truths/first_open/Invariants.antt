use Rattle.std.proofs.Common.{◌≡◌, ◌≤◌, length, drop}
use Rattle.lucy_cert.specs.Justified.{open_atoms}
use Rattle.lucy_units.proofs.truths.first_open.Given as goal

abbrev pub invariant-loop-i : goal.invariant-loop-i
invariant-loop-i l = (l.i ≤ length l.atoms) × (open_atoms l.trues (drop l.from l.atoms) ≡ open_atoms l.trues (drop l.i l.atoms))
