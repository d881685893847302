use Rattle.std.proofs.Common.{◌≡◌, ◌+◌, ◌∷◌, pos, drop, get_or, ap, sym, ◌∙◌, subst}
use Rattle.std.proofs.lemmas.List.{drop_all}
use Rattle.lucy_clauses.specs.declared.parts.Part.{Part}
use Rattle.lucy_clauses.specs.Parts.{put_any, gathered_onto, stays_within, all_within}
use Rattle.lucy_clauses.specs.Normal.{IsGathered}
use Rattle.lucy_clauses.proofs.GatheredParts.{is_gathered-put_any}
use Rattle.lucy_clauses.proofs.Mapping.{drop-at, two_tests}
use Rattle.lucy_clauses.proofs.gathering.gather.Goals as goal

pub put_any-requires-clause-within : goal.put_any-requires-clause-within
put_any-requires-clause-within c =
    let nil : Part = record { variable = 0; by = pos 0 } in
    let i = c.loop-part.part-index in
    let part = get_or c.args.parts.now i nil in
    let sum = c.loop-part.sum.items in
    let rest = drop-at c.args.parts.now i nil c.loop-part-test.true in
    (two_tests (all_within (put_any part sum)) (stays_within (put_any part sum) (drop (i + 1) c.args.parts.now)) (sym (ap (stays_within sum) rest) ∙ c.loop-part.invariant.1)).0

pub loop-part-preserved : goal.loop-part-preserved
loop-part-preserved c =
    let nil : Part = record { variable = 0; by = pos 0 } in
    let i = c.loop-part.part-index in
    let part = get_or c.args.parts.now i nil in
    let sum = c.loop-part.sum.items in
    let left = drop (i + 1) c.args.parts.now in
    let rest : drop i c.args.parts.now ≡ part ∷ left = drop-at c.args.parts.now i nil c.loop-part-test.true in
    let kept = two_tests (all_within (put_any part sum)) (stays_within (put_any part sum) left) (sym (ap (stays_within sum) rest) ∙ c.loop-part.invariant.1) in (
      ap (λ s. gathered_onto s left) c.in_ok-put_any.ensures ∙ sym (ap (gathered_onto sum) rest) ∙ c.loop-part.invariant.0,
      ap (λ s. stays_within s left) c.in_ok-put_any.ensures ∙ kept.1,
      subst IsGathered (sym c.in_ok-put_any.ensures) (is_gathered-put_any part sum c.loop-part.invariant.2 kept.0),
    )

pub returns : goal.returns
returns c = sym (ap (gathered_onto c.loop-part.sum.items) (drop_all c.loop-part.part-index c.args.parts.now c.loop-part-test.false)) ∙ c.loop-part.invariant.0
