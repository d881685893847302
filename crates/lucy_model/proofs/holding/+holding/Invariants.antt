use Rattle.std.proofs.Common.{◌≡◌, drop, map, length, true}
use Rattle.std.specs.List.{list_all, list_any}
use Rattle.lucy_model.specs.Asked.{is_so}
use Rattle.lucy_model.specs.Conditions.{is_condition, holds_at}
use Rattle.lucy_model.proofs.holding.+holding.Given as goal

abbrev pub invariant-some_is-loop-part : goal.invariant-some_is-loop-part
invariant-some_is-loop-part g l =
    let xs = g.N.Numbers.numbers l.numbers in
    (list_any (λ t. is_so l.holding (t xs l.arguments)) (map holds_at l.parts) ≡ list_any (λ t. is_so l.holding (t xs l.arguments)) (map holds_at (drop l.part-index l.parts)))
    × (list_all (λ b. b) (map (is_condition (length xs) (length l.arguments)) (drop l.part-index l.parts)) ≡ true)
