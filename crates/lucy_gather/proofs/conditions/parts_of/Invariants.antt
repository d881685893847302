use Rattle.std.proofs.Common.{◌≡◌, drop, ◌∷◌, []}
use Rattle.lucy_gather.specs.Conditions.{all_of}
use Rattle.lucy_gather.proofs.conditions.parts_of.Given as goal

abbrev pub invariant-loop-other : goal.invariant-loop-other
invariant-loop-other g l =
    all_of (g.P.Part.step l.scope l.params) (drop l.other-index l.others) l.found l.count
    ≡ all_of (g.P.Part.step l.scope l.params) l.others (l.fn.first ∷ []) l.fn.count
