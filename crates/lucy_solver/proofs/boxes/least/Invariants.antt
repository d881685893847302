use Rattle.std.proofs.Common.{◌≡◌, ◌≤◌, ◌+◌, ◌^◌, ◌+ℤ◌, drop}
use Rattle.std.specs.Prelude.{unsigned_abs}
use Rattle.lucy_solver.specs.Boxes.{least, reaches}
use Rattle.lucy_solver.proofs.boxes.least.Given as goal

abbrev pub invariant-loop-part : goal.invariant-loop-part
invariant-loop-part l =
    (least l.bounds l.parts ≡ l.sum +ℤ least l.bounds (drop l.part-index l.parts)) × (unsigned_abs l.sum + reaches l.bounds (drop l.part-index l.parts) ≤ 2 ^ 100)
