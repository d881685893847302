use Rattle.std.proofs.Common.{ap, ◌∙◌, refl, arith}
use Rattle.lucy_plan.specs.declared.parts.PlanParts.{PlanParts}
use Rattle.lucy_walks.proofs.EntryLemmas.{merged_offer}
use Rattle.lucy_walks.proofs.walking.merged_entry.Goals as goal

pub returns : goal.returns
returns c =
    merged_offer c.args.plan.now c.as_slice-object.result.now c.args.left.now c.args.right.now _ c.requires.left c.requires.right
    (c.as_slice-object.ensures ∙ ap (λ (p : PlanParts). p.object) c.parts.ensures.parts)
    c.in_ok-sketch.ensures c.in_ok-state.ensures refl (omega arith)
