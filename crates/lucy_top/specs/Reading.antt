-- What the inputs of a command say.
use Rattle.std.specs.Prelude.{ℕ, ◌^◌, List, [], Option, Ok}
use Rattle.lucy_cert.specs.Certificates.{Contents}
use Rattle.lucy_cert.specs.Certifying.{certificate_of}
use Rattle.lucy_cert.specs.declared.error.CertError.{CertError}
use Rattle.lucy_cert.specs.declared.error.CertError.TheVariants as cert
use Rattle.lucy_judge.specs.Judging.{refusal_of}
use Rattle.lucy_judge.specs.declared.refusal.Refusal.{Refusal}
use Rattle.lucy_plan.specs.declared.parts.PlanParts.{PlanParts}
use Rattle.lucy_reading.specs.Faults.{too_long}
use Rattle.lucy_reading.specs.Outcomes.{Outcome, ◌>>=◌, told}
use Rattle.lucy_reading.specs.Plans.{plan_read}
use Rattle.lucy_report.specs.FaultLines.{bad_certificate}

-- the plan of a text, or the line of the first fault
unfoldable pub plan_said : List ℕ → List ℕ → Outcome PlanParts
plan_said name text = plan_read name text >>= λ found. Ok found.0

-- the line of a text that is no certificate
abbrev pub certificate_line : List ℕ → CertError → List ℕ
certificate_line name cert.TooLong = too_long name (2 ^ 26)
certificate_line name (cert.BadLine at) = bad_certificate name at
certificate_line name cert.OutOfMemory = []

-- the certificate of a text, or the line of the first fault
unfoldable pub certificate_said : List ℕ → List ℕ → Outcome Contents
certificate_said name text = told (certificate_line name) (certificate_of text)

-- why the certificate of a text is refused for a plan, if it is; or the line of the first fault
unfoldable pub judged : List ℕ → PlanParts → List ℕ → Outcome (Option Refusal)
judged name plan text = certificate_said name text >>= λ certificate. Ok (refusal_of plan certificate)
