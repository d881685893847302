-- What a certificate was found to be.
use Rattle.std.specs.Prelude.{ℕ, ◌^◌, List, [], Option, Some, None, Ok, Err}
use Rattle.std.specs.Arc.{arc_value}
use Rattle.lucy_judge.specs.declared.refusal.Refusal.{Refusal}
use Rattle.lucy_judge.specs.declared.refusal.Refusal.TheVariants as why
use Rattle.lucy_plan.specs.declared.parts.PlanParts.{PlanParts}
use Rattle.lucy_reading.specs.Faults.{too_long}
use Rattle.lucy_reading.specs.Outcomes.{Outcome}
use Rattle.lucy_report.specs.FaultLines.{bad_certificate}
use Rattle.lucy_stream.specs.declared.error.StreamError.{StreamError}
use Rattle.lucy_stream.specs.declared.error.StreamError.TheVariants as cause
use Rattle.lucy_top.specs.declared.judging.Judged.{Judged}
use Rattle.lucy_top.specs.declared.judging.Judged.TheVariants.{Accepted, Refused}

-- why it is refused, if it is
abbrev pub refusal_in : Judged → Option Refusal
refusal_in (Accepted checked) = None
refusal_in (Refused plan refusal) = Some refusal

-- the plan that it is for
abbrev pub plan_in : Judged → PlanParts
plan_in (Accepted checked) = arc_value checked
plan_in (Refused plan refusal) = arc_value plan

-- how what a text is answered is told, where memory has not run out
abbrev pub told_as : List ℕ → StreamError → Outcome (Option Refusal)
told_as name cause.TooLong = Err (too_long name (2 ^ 26))
told_as name (cause.BadLine at) = Err (bad_certificate name at)
told_as name cause.StartBreaks = Ok (Some why.StartBreaks)
told_as name (cause.Missing part) = Ok (Some (why.Missing part))
told_as name (cause.Rejected part step cause_of) = Ok (Some (why.Rejected part step cause_of))
told_as name cause.OutOfMemory = Err []
