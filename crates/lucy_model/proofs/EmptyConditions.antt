-- Conditions of no parts.
use Rattle.std.proofs.Common.{◌≡◌, ℤ, false, List, [], ap, sym, ◌∙◌, true≢false}
use Rattle.lucy_model.specs.Conditions.{Test, test_step, holds_at}
use Rattle.lucy_model.specs.Laws.{EmptyAndHolds, EmptyOrFails}
use Rattle.lucy_model.specs.declared.conditions.Condition.{Or}
use Rattle.lucy_model.specs.declared.conditions.Condition.TheVariants.{rolls-And, rolls-Or}
use Rattle.lucy_model.specs.declared.conditions.Condition.TheOpen.{Condition-F}
use Rattle.lucy_model.specs.declared.conditions.Condition.TheFolds.{fold-roll-Condition}

pub empty_and : EmptyAndHolds
empty_and xs arguments =
    ap (λ c. holds_at c xs arguments) (sym (rolls-And [])) ∙ ap (λ (t : Test). t xs arguments) (fold-roll-Condition Test test_step (Condition-F.And []))

holds_at-Or-nil : (xs arguments : List ℤ) → holds_at (Or []) xs arguments ≡ false
holds_at-Or-nil xs arguments =
    ap (λ c. holds_at c xs arguments) (sym (rolls-Or [])) ∙ ap (λ (t : Test). t xs arguments) (fold-roll-Condition Test test_step (Condition-F.Or []))

pub empty_or : EmptyOrFails
empty_or xs arguments h = absurd (true≢false (sym h ∙ holds_at-Or-nil xs arguments))
