use Rattle.std.proofs.Common.{ℕ, List, ◌++◌, ap, ◌∙◌}
use Rattle.lucy_cert.specs.Cutting.{behind_spaces}
use Rattle.lucy_cert.specs.Texts.{atom_pieces}
use Rattle.lucy_cert.proofs.TextLemmas.{atom_more}
use Rattle.lucy_cert.proofs.writing.write_atoms.Goals as goal

pub loop-atom-preserved : goal.loop-atom-preserved
loop-atom-preserved c =
    let out = c.loop-atom.out.items in
    let atom = c.in-Some.atom.now in
    let written = c.in_ok-write_atom.ensures ∙ ap (λ (comma : List ℕ). out ++ behind_spaces (atom_pieces comma atom)) c.comma_before.ensures in
    atom_more atom c.in-Some.more.now c.loop-atom.rest.now out _ _ c.in-Some.ensures written c.loop-atom.invariant
