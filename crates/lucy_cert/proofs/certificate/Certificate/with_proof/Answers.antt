use Rattle.std.proofs.Common.{◌≡◌, true, List, sym, ap, ◌∙◌}
use Rattle.lucy_cert.specs.Certificates.{Part, part_names, come_before}
use Rattle.lucy_cert.specs.Names.{ascend}
use Rattle.lucy_cert.proofs.CertificateLemmas.{ascend-push}
use Rattle.lucy_cert.proofs.certificate.Certificate.with_proof.Goals as goal

pub invariant_of-result : goal.invariant_of-result
invariant_of-result c =
    let parts = c.self.inside.parts in
    let here : come_before c.args.name parts ≡ true = ap (come_before c.args.name) (sym c.as_slice.ensures) ∙ sym c.come_before.ensures ∙ c.if-not-come_before.false in
    ap (λ (ps : List Part). ascend (part_names ps)) c.in_ok-push.ensures.ok ∙ ascend-push parts (c.args.name, c.args.proof) c.self.invariant here
