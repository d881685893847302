use Rattle.std.proofs.Common.{List, ap, ◌∙◌}
use Rattle.lucy_cert.specs.Certificates.{Part, part_names}
use Rattle.lucy_cert.specs.Names.{ascend}
use Rattle.lucy_cert.proofs.CertificateLemmas.{ascend-with_part, ascend-with_step}
use Rattle.lucy_cert.proofs.reading.CertificateTaker.take.Goals as goal

pub invariant_of-result-in-Part : goal.invariant_of-result-in-Part
invariant_of-result-in-Part c = ap (λ (ps : List Part). ascend (part_names ps)) c.in_ok-parts-in-Part.ensures ∙ ascend-with_part c.in-Part.name c.self.inside.parts c.self.invariant

pub invariant_of-result-in-Step : goal.invariant_of-result-in-Step
invariant_of-result-in-Step c = ap (λ (ps : List Part). ascend (part_names ps)) c.in_ok-parts-in-Step.ensures ∙ ascend-with_step c.in-Step.step c.self.inside.parts c.self.invariant
