use Rattle.lucy_top.proofs.VerdictLemmas.{unsound_if}
use Rattle.lucy_top.proofs.checking.tell_unsound.Goals as goal

pub returns : goal.returns
returns c =
    let valid = rw c.parts-parts.ensures.parts at c.parts-parts.ensures.kept in
    unsound_if c.sound_is_sound.ensures c.args.plan.now c.args.findings.now c.tell.result valid c.requires.findings c.requires.unsound c.tell.ensures
