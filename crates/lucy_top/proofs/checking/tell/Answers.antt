use Rattle.std.proofs.Common.{Bool, ap, ◌∙◌}
use Rattle.std.specs.Prelude.{if◌then◌else◌}
use Rattle.lucy_top.proofs.VerdictLemmas.{told_so}
use Rattle.lucy_top.proofs.checking.tell.Goals as goal

pub returns : goal.returns
returns c =
    let valid = rw c.parts-parts.ensures.parts at c.parts-parts.ensures.kept in
    told_so c.sound_is_sound.ensures c.args.plan.now c.args.findings.now c.status_by-status.result c.in_ok-text.text.items valid c.requires c.in_ok-text.ensures
    (c.status_by-status.ensures ∙ ap (λ (b : Bool). if b then 0 else 1) c.is_sound.ensures.value)
