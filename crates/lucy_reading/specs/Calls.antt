-- What a work text and a step script say.
use Rattle.std.specs.Prelude.{ℕ, List, codes}
use Rattle.lucy_plan.specs.declared.parts.Call.{Call}
use Rattle.lucy_plan.specs.declared.parts.PlanParts.{PlanParts}
use Rattle.lucy_calls.specs.declared.steps.Step.{Step}
use Rattle.lucy_calls.specs.Steps.{steps_of}
use Rattle.lucy_calls.specs.Work.{work_of}
use Rattle.lucy_reading.specs.Faults.{calls_line}
use Rattle.lucy_reading.specs.Outcomes.{Outcome, told}

-- the calls of each replica, or the line of the first fault
unfoldable pub work_read : List ℕ → PlanParts → List ℕ → Outcome (List (List Call))
work_read name plan text = told (calls_line (codes "work") name) (work_of plan text)

-- the steps for so many replicas, or the line of the first fault
unfoldable pub steps_read : List ℕ → ℕ → List ℕ → Outcome (List Step)
steps_read name replicas text = told (calls_line (codes "steps") name) (steps_of replicas text)
