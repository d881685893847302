use Rattle.std.proofs.Common.{◌≡◌, drop, map}
use Rattle.std.specs.List.{list_all}
use Rattle.lucy_model.specs.Conditions.{is_condition}
use Rattle.lucy_model.proofs.ranges.+ranging.Given as goal

abbrev pub invariant-are_conditions-loop-part : goal.invariant-are_conditions-loop-part
invariant-are_conditions-loop-part l =
    list_all (λ part. part) (map (is_condition l.leaves l.arguments) l.parts)
    ≡ list_all (λ part. part) (map (is_condition l.leaves l.arguments) (drop l.part-index l.parts))
