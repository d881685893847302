-- The certificate of a text.
use Rattle.std.specs.Prelude.{ℕ, List}
use Rattle.lucy_io.specs.Outcomes.{Outcome}
use Rattle.lucy_cert.specs.declared.error.CertError.{CertError}
use Rattle.lucy_cert.specs.Certificates.{Contents, nothing, add_item}
use Rattle.lucy_cert.specs.Feeding.{read_by}

-- the certificate that a text says, or why it says none
abbrev pub certificate_of : List ℕ → Outcome CertError Contents
certificate_of text = read_by add_item nothing text
