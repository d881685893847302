use Rattle.std.proofs.Common.{◌≡◌, take}
use Rattle.lucy_model.proofs.negation.+copying.Given as goal

abbrev pub invariant-copies-loop-part : goal.invariant-copies-loop-part
invariant-copies-loop-part l = l.all ≡ take l.part-index l.parts
