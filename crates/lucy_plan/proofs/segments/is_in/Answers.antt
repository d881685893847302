use Rattle.std.proofs.Common.{◌≡◌, true, false, ◌&&◌, not, [], sym, ◌∙◌, ap, rules}
use Rattle.std.proofs.lemmas.Bool.{OnTrue_from, and_parts}
use Rattle.lucy_model.specs.Conditions.{holds_at}
use Rattle.lucy_plan.specs.Segments.{AreStateNumbers, is_whole, is_among, is_in}
use Rattle.lucy_plan.proofs.segments.is_in.Goals.{then-whole, else-whole}
use Rattle.lucy_plan.proofs.segments.is_in.Goals as goal

pub returns-then-holds_raw-clause-segment : goal.returns-then-holds_raw-clause-segment
returns-then-holds_raw-clause-segment c =
    let plan = c.args.plan.now in
    let segment = c.args.segment.now in
    let raw = c.args.raw.now in
    let among : c.is_among.result ≡ is_among segment.excepts raw = search rules in
    let same : is_in plan segment raw ≡ not c.is_among.result =
    elim c.if-whole.branch [
      | then-whole w ↦
          ap (λ b. b && holds_at segment.condition raw [] && not (is_among segment.excepts raw)) (c.whole.ensures.whole.0 w.if-whole.true)
          ∙ ap (λ b. b && not (is_among segment.excepts raw)) (w.holds_raw.ensures.0 (sym w.value-is ∙ c.if-holds_raw.true))
          ∙ ap not (sym among)
      | else-whole w ↦ let no : false ≡ true = sym w.if-whole.false ∙ sym w.value-is ∙ c.if-holds_raw.true in absurd (cc)
    ] in
    (λ h. same ∙ h, λ h. sym same ∙ h)

pub returns-then-holds_raw-clause-fits : goal.returns-then-holds_raw-clause-fits
returns-then-holds_raw-clause-fits c =
    elim c.if-whole.branch [
      | then-whole w ↦ OnTrue_from (not c.is_among.result) (AreStateNumbers c.args.raw.now) (λ _. w.if-whole.ensures.fits)
      | else-whole w ↦ let no : false ≡ true = sym w.if-whole.false ∙ sym w.value-is ∙ c.if-holds_raw.true in absurd (cc)
    ]

pub returns-else-holds_raw-clause-segment : goal.returns-else-holds_raw-clause-segment
returns-else-holds_raw-clause-segment c =
    let plan = c.args.plan.now in
    let segment = c.args.segment.now in
    let raw = c.args.raw.now in (
      λ h. let no : false ≡ true = sym c.if-holds_raw.false ∙ h in absurd (cc),
      λ h. let parts = and_parts (is_whole plan raw) (holds_at segment.condition raw []) (and_parts (is_whole plan raw && holds_at segment.condition raw []) (not (is_among segment.excepts raw)) h).0 in
          elim c.if-whole.branch [
            | then-whole w ↦ w.value-is ∙ w.holds_raw.ensures.1 parts.1
            | else-whole w ↦ let no : false ≡ true = sym w.if-whole.false ∙ c.whole.ensures.whole.1 parts.0 in absurd (cc)
          ],
    )

pub returns-else-holds_raw-clause-fits : goal.returns-else-holds_raw-clause-fits
returns-else-holds_raw-clause-fits c =
    OnTrue_from c.if-whole.value (AreStateNumbers c.args.raw.now) (λ h. let no : false ≡ true = sym c.if-holds_raw.false ∙ h in absurd (cc))
