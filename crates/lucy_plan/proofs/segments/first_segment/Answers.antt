use Rattle.std.proofs.Common.{◌≡◌, ◌<◌, Bool, true, false, length, get_or, refl, sym, ◌∙◌}
use Rattle.lucy_plan.specs.Plans.{is_segment}
use Rattle.lucy_plan.specs.Segments.{is_in}
use Rattle.lucy_plan.proofs.Found.{rest_passes}
use Rattle.lucy_plan.proofs.SegmentLemmas.{position_later}
use Rattle.lucy_plan.proofs.segments.first_segment.Goals as goal

not_true : (b : Bool) → (b ≡ true → false ≡ true) → b ≡ false
not_true true h = sym (h refl)
not_true false h = refl

pub loop-i-preserved : goal.loop-i-preserved
loop-i-preserved c =
    let plan = c.args.plan.now in
    let raw = c.args.raw.now in
    let i = c.loop-i.i in
    let x = c.segment-item.result in
    let same : c.as_slice-segment-items.result.now ≡ plan.segments = rw c.parts-parts.ensures.parts at c.as_slice-segment-items.ensures in
    let below : i < length plan.segments = rw same at c.loop-i-test.true in
    let here : x ≡ get_or plan.segments i x = rw same at c.segment-item.is in
    let fails : is_in plan x raw ≡ false = not_true (is_in plan x raw) (λ h. sym c.if-is_in.false ∙ c.is_in.ensures.segment.1 h) in (
      c.loop-i.invariant.0 ∙ position_later (λ segment. is_in plan segment raw) plan.segments i x below here fails,
      rest_passes (is_segment (length plan.object) (length plan.txns)) plan.segments i x below here c.loop-i.invariant.1,
    )
