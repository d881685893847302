-- What threads come to, as it is found afterwards.
use Rattle.std.specs.Prelude.{◌≡◌, ◌≢◌, ◌⊎◌, ◌<◌, true, false, List, Option, Some, None}
use Rattle.std.specs.Option.{option_map}
use Rattle.std.specs.Arc.{arc_value}
use Rattle.lucy_audit.specs.Differences.{IsMoveTo}
use Rattle.lucy_audit.specs.declared.differences.Difference.{Difference}
use Rattle.lucy_audit.specs.declared.differences.Difference.TheVariants.{Seats, Calls, Records, Opening, Named, Counts, Lengths}
use Rattle.lucy_epochs.specs.Records.{Record}
use Rattle.lucy_core.specs.declared.outcome.Outcome.{Outcome}
use Rattle.lucy_plan.specs.Segments.{first_segment}
use Rattle.lucy_plan.specs.declared.parts.Call.{Call}
use Rattle.lucy_plan.specs.declared.parts.PlanParts.{PlanParts}
use Rattle.lucy_replica.specs.Answering.{answer_of}
use Rattle.lucy_replica.specs.Legal.{IsLegal}
use Rattle.lucy_report.specs.OutcomeTexts.{replicas_in}
use Rattle.lucy_top.specs.Outcomes.{Choice, any, alone, kept}
use Rattle.lucy_top.specs.declared.threads.Worked.{Worked}
use Rattle.lucy_top.specs.declared.threads.Worked.TheVariants.{Agreed, Apart}

-- the two values of a difference are not the same; of an opening that is computed again, the numbers or the first segment are others, by the plan of the record before
abbrev pub Differs : Difference → Type 0
Differs (Seats place held) = held ≢ place
Differs (Calls replica ours theirs) = ours ≢ theirs
Differs (Records ours theirs) = arc_value ours ≢ arc_value theirs
Differs (Opening after result) = (before : Record) × ((result ≢ (arc_value after).opening) ⊎ (first_segment before.plan result ≢ Some (arc_value after).segment))
Differs (Named after reply) = ¬ (IsMoveTo (arc_value after) (option_map answer_of reply))
Differs (Counts replica held accepted) = accepted < held
Differs (Lengths replica ours theirs) = ours ≢ theirs

-- threads left a legal outcome, or a difference was found
abbrev pub IsWorked : PlanParts → List (List Call) → Worked → Type 0
IsWorked plan work (Agreed outcome) = (outcome.threads ≡ true) × IsLegal plan work (replicas_in outcome)
IsWorked plan work (Apart difference) = Differs difference

-- the difference that is kept beside an outcome: one where an outcome is there that threads did not make, else none
abbrev pub IsApart : Option Outcome → Option Difference → Type 0
IsApart None difference = difference ≡ None
IsApart (Some outcome) None = outcome.threads ≡ true
IsApart (Some outcome) (Some difference) = (outcome.threads ≡ false) × Differs difference

-- threads kept this, so this choice may be meant
abbrev pub SuitsThreads : Choice → Option Outcome → Type 0
SuitsThreads any slot = Unit {0}
SuitsThreads alone slot = ⊥
SuitsThreads (kept wanted) slot = wanted ≡ slot
