-- Laws of texts that are judged as they are read.
use Rattle.std.specs.Prelude.{◌≡◌, ℕ, List, Result, Ok, Err}
use Rattle.lucy_cert.specs.declared.error.CertError.{CertError}
use Rattle.lucy_plan.specs.declared.parts.PlanParts.{PlanParts}
use Rattle.lucy_cert.specs.Feeding.{read_by}
use Rattle.lucy_judge.specs.declared.refusal.Refusal.{Refusal}
use Rattle.lucy_judge.specs.Judges.{finished}
use Rattle.lucy_stream.specs.declared.error.StreamError.{StreamError}
use Rattle.lucy_stream.specs.declared.hearing.Hearing.{Hearing}
use Rattle.lucy_stream.specs.Hearings.{begun, heard}
use Rattle.lucy_stream.specs.Verifying.{of_text, of_refusal, verified, told}

-- the refusal of a judge, as that of a text
abbrev pub of_judge : Result PlanParts Refusal → Result PlanParts StreamError
of_judge (Ok plan) = Ok plan
of_judge (Err e) = Err (of_refusal e)

-- what is answered of a text that was heard
abbrev pub answered : Result Hearing CertError → Result PlanParts StreamError
answered (Ok h) = of_judge (finished h.judge.plan h.judge.trial)
answered (Err e) = Err (of_text e)

-- a text that is judged as it is read is answered as one that is read whole and then judged
abbrev pub JudgedAsRead : Type 0
JudgedAsRead = (plan : PlanParts) (text : List ℕ) → answered (read_by heard (begun plan) text) ≡ told plan (verified plan text)
