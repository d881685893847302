use Rattle.std.proofs.Common.{◌≤◌, ◌^◌, length, sym, ◌∙◌, arith}
use Rattle.std.proofs.lemmas.Bool.{OnTrue_from}
use Rattle.lucy_plan.specs.Segments.{AreStateNumbers}
use Rattle.lucy_plan.proofs.Ranges.{allowed_small, allowed_states, small_below}
use Rattle.lucy_plan.proofs.segments.whole.Goals as goal

pub holds_raw-requires-clause-size : goal.holds_raw-requires-clause-size
holds_raw-requires-clause-size c =
    let object = c.as_slice.result.now in
    let raw = c.args.raw.now in
    small_below (2 ^ 69) raw (omega arith) (allowed_small object raw (sym c.are_allowed.ensures ∙ c.if-not-are_allowed.false))

pub returns-clause-fits : goal.returns-clause-fits
returns-clause-fits c =
    let object = c.as_slice.result.now in
    let raw = c.args.raw.now in
    let few : length object ≤ 64 = rw c.as_slice.ensures c.parts-parts.ensures.kept.leaves_few in
    OnTrue_from c.holds_raw.result (AreStateNumbers raw) (λ _. allowed_states object raw few (sym c.are_allowed.ensures ∙ c.if-not-are_allowed.false))
