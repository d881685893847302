use Rattle.std.proofs.Common.{take}
use Rattle.std.specs.List.{AllZip}
use Rattle.lucy_model.specs.Negations.{IsNegation}
use Rattle.lucy_model.proofs.negation.+negating.Given as goal

abbrev pub invariant-negations-loop-part : goal.invariant-negations-loop-part
invariant-negations-loop-part l = AllZip IsNegation l.all (take l.part-index l.parts)
