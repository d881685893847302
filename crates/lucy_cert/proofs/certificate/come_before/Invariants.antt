use Rattle.std.proofs.Common.{◌≡◌, drop}
use Rattle.lucy_cert.specs.Certificates.{come_before}
use Rattle.lucy_cert.proofs.certificate.come_before.Given as goal

abbrev pub invariant-loop-part : goal.invariant-loop-part
invariant-loop-part l = come_before l.name l.parts ≡ come_before l.name (drop l.part-index l.parts)
