use Rattle.std.proofs.Common.{◌≡◌, take}
use Rattle.lucy_model.proofs.raws.is_slice.Given as goal

abbrev pub invariant-loop-i : goal.invariant-loop-i
invariant-loop-i l = take l.i l.wide ≡ take l.i l.numbers
