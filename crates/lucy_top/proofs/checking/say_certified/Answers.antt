use Rattle.std.proofs.Common.{refl}
use Rattle.lucy_top.proofs.VerdictLemmas.{found_sound}
use Rattle.lucy_top.proofs.checking.say_certified.Goals as goal

pub returns : goal.returns
returns c =
    let valid = rw c.parts-parts.ensures.parts at c.parts-parts.ensures.kept in
    record {
      certificate = c.in_ok-certificate.certificate;
      text_is = c.in_ok-text.ensures;
      writable = c.in_ok-certificate.ensures.writable;
      is_accepted = c.in_ok-certificate.ensures.accepted;
      status_is = refl;
      sound = found_sound c.sound_is_sound.ensures c.args.plan.now c.args.findings.now valid c.requires.findings c.requires.sound;
    }
