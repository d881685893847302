use Rattle.std.proofs.Common.{ℕ, List, [], ◌∷◌, ◌++◌, ap, ◌∙◌}
use Rattle.std.specs.Prelude.{codes}
use Rattle.std.specs.List.{flat_map}
use Rattle.lucy_cert.specs.declared.entries.Entry.TheVariants as entry
use Rattle.lucy_cert.specs.Certificates.{Part, contents}
use Rattle.lucy_cert.specs.Texts.{entry_text, lines_text, part_entries, certificate_text}
use Rattle.lucy_cert.proofs.TextLemmas.{three, whole_text}
use Rattle.lucy_cert.proofs.writing.write.Goals as goal

pub returns : goal.returns
returns c =
    let cert = contents c.certificate.inside.parts c.certificate.inside.live in
    let a = entry_text (entry.Header cert.live) ++ 10 ∷ [] in
    let b = lines_text (flat_map part_entries cert.parts) in
    let e = codes "end" ++ 10 ∷ [] in
    c.in_ok-write_text.ensures
    ∙ ap (λ (s : List ℕ). s ++ e) (c.in_ok-write_cert_parts.ensures ∙ ap (λ (ps : List Part). c.write_header.new.out.items ++ lines_text (flat_map part_entries ps)) c.as_slice.ensures ∙ ap (λ (s : List ℕ). s ++ b) (c.in_ok-write_header.ensures ∙ ap (λ (s : List ℕ). s ++ a) c.new-out.ensures.items))
    ∙ three [] a b e (certificate_text cert) (whole_text cert)
    ∙ ap certificate_text c.certificate.view_is
