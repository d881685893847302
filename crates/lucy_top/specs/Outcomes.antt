-- What a run comes to.
use Rattle.std.specs.Prelude.{◌≡◌, ℕ, Bool, true, false, List, Option, Some, Ok}
use Rattle.lucy_plan.specs.Soundness.{IsSound}
use Rattle.lucy_plan.specs.declared.parts.Call.{Call}
use Rattle.lucy_plan.specs.declared.parts.PlanParts.{PlanParts}
use Rattle.lucy_core.specs.Alone.{alone_world}
use Rattle.lucy_core.specs.declared.outcome.Outcome.{Outcome}
use Rattle.lucy_io.specs.Outcomes as read
use Rattle.lucy_names.specs.Plans.{segment_names}
use Rattle.lucy_replica.specs.Legal.{IsLegal}
use Rattle.lucy_report.specs.OutcomeTexts.{replicas_in, outcome_text}
use Rattle.lucy_words.specs.declared.asked.Command.{Command}
use Rattle.lucy_words.specs.declared.asked.Command.TheVariants as command
use Rattle.lucy_words.specs.declared.error.WordsError.{WordsError}

-- which outcome is meant: any; the one that one thread alone comes to; or the one that was kept, if one was
pub data Choice : Type 0 where
  any : Choice
  alone : Choice
  kept : Option Outcome → Choice

-- what one thread alone comes to
pub record IsAlone (plan : PlanParts) (work : List (List Call)) (outcome : Outcome) : Type 0 where
  pub no_threads : outcome.threads ≡ false
  pub replicas : replicas_in outcome ≡ (alone_world plan work).replicas

abbrev pub IsMeant : Choice → PlanParts → List (List Call) → Outcome → Type 0
IsMeant any plan work outcome = Unit {0}
IsMeant alone plan work outcome = IsAlone plan work outcome
IsMeant (kept slot) plan work outcome = slot ≡ Some outcome

-- one thread alone kept this, so this choice may be meant
abbrev pub Suits : Choice → Option Outcome → Type 0
Suits any slot = Unit {0}
Suits alone slot = Unit {0}
Suits (kept wanted) slot = wanted ≡ slot

-- the plan is sound, and the text is that of an outcome of the work, which is legal
pub record HasRun (choice : Choice) (plan : PlanParts) (work : List (List Call)) (status : ℕ) (text : List ℕ) : Type 0 where
  pub outcome : Outcome
  pub is_meant : IsMeant choice plan work outcome
  pub legal : IsLegal plan work (replicas_in outcome)
  pub sound : IsSound plan
  pub status_is : status ≡ 0
  pub text_is : text ≡ outcome_text (segment_names plan) outcome

-- the words ask for a run
abbrev pub asks_run : read.Outcome WordsError Command → Bool
asks_run (Ok (command.Run plan certificate work seed)) = true
asks_run _ = false
