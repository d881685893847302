-- What a text is answered that is to be a certificate for a plan.
use Rattle.std.specs.Prelude.{◌≡◌, ◌≢◌, ℕ, List, Option, Some, None, Result, Ok, Err}
use Rattle.std.specs.Option.{option_map}
use Rattle.lucy_io.specs.Outcomes.{Outcome}
use Rattle.lucy_plan.specs.declared.parts.PlanParts.{PlanParts}
use Rattle.lucy_cert.specs.declared.error.CertError.{CertError}
use Rattle.lucy_cert.specs.declared.error.CertError.TheVariants as wrong
use Rattle.lucy_cert.specs.Certificates.{Contents}
use Rattle.lucy_cert.specs.Certifying.{certificate_of}
use Rattle.lucy_judge.specs.declared.refusal.Refusal.{Refusal}
use Rattle.lucy_judge.specs.declared.refusal.Refusal.TheVariants as refusal
use Rattle.lucy_judge.specs.Judging.{refusal_of}
use Rattle.lucy_stream.specs.declared.error.StreamError.{StreamError}
use Rattle.lucy_stream.specs.declared.error.StreamError.TheVariants as cause

-- why a text is no certificate
abbrev pub of_text : CertError → StreamError
of_text wrong.TooLong = cause.TooLong
of_text (wrong.BadLine line) = cause.BadLine line
of_text wrong.OutOfMemory = cause.OutOfMemory

-- why a certificate is refused
abbrev pub of_refusal : Refusal → StreamError
of_refusal refusal.StartBreaks = cause.StartBreaks
of_refusal (refusal.Missing part) = cause.Missing part
of_refusal (refusal.Rejected part step why) = cause.Rejected part step why
of_refusal refusal.OutOfMemory = cause.OutOfMemory

-- what is read is judged
abbrev pub verified_by : PlanParts → Outcome CertError Contents → Option StreamError
verified_by plan (Ok certificate) = option_map of_refusal (refusal_of plan certificate)
verified_by plan (Err e) = Some (of_text e)

-- why a text is not accepted for a plan: it is read, and then the certificate that it says is judged. So a line that is in no certificate, wherever it stands, comes before each refusal.
abbrev pub verified : PlanParts → List ℕ → Option StreamError
verified plan text = verified_by plan (certificate_of text)

-- ---- what is answered

-- the plan where the text is accepted, else why it is not
abbrev pub told : PlanParts → Option StreamError → Result PlanParts StreamError
told plan None = Ok plan
told plan (Some e) = Err e

-- the same, where memory may run out as well
abbrev pub Tells : PlanParts → Option StreamError → Result PlanParts StreamError → Type 0
Tells plan why (Ok checked) = (checked ≡ plan) × (why ≡ None)
Tells plan why (Err e) = e ≢ cause.OutOfMemory → why ≡ Some e
