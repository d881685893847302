use Rattle.std.proofs.Common.{◌≡◌, Bool, true, false, refl, sym}
use Rattle.std.specs.Ordering.{int_eq}
use Rattle.std.specs.Cmp.Lexicographic.{pointwise}
use Rattle.std.specs.Cmp.Rules.{signed_items}
use Rattle.lucy_plan.proofs.segments.is_point.Goals as goal

agree : (a b : Bool) → (a ≡ true → b ≡ true) → (b ≡ true → a ≡ true) → a ≡ b
agree true b f g = sym (f refl)
agree false true f g = g refl
agree false false f g = refl

pub returns : goal.returns
returns c =
    let point = c.args.point.now in
    let raw = c.args.raw.now in
    let decides = signed_items point raw in
    agree c.is_state.result (pointwise int_eq point raw) (λ h. decides.1 (sym (c.is_state.ensures.0 h))) (λ h. c.is_state.ensures.1 (sym (decides.0 h)))
