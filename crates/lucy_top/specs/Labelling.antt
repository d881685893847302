-- `label`: the plan that is read, and the session of labels over it.
use Rattle.std.specs.Prelude.{◌≡◌, ◌⊎◌, ◌↔◌, ℕ, ◌^◌, false, List, [], ◌∷◌, ◌++◌, Option, Some, None, Ok, Err}
use Rattle.lucy_io.specs.Inputs.{Entry, Told}
use Rattle.lucy_io.specs.Outcomes.{Outcome}
use Rattle.lucy_names.specs.Plans.{AreNamesOf}
use Rattle.lucy_names.specs.declared.names.Names.{Names}
use Rattle.lucy_plan.specs.Segments.{IsWhole, is_whole}
use Rattle.lucy_plan.specs.declared.parts.PlanParts.{PlanParts}
use Rattle.lucy_report.specs.VerdictLines.{start_breaks}
use Rattle.lucy_session.specs.Sessions.{opening}
use Rattle.lucy_top.specs.Commands.{asks_plan}
use Rattle.lucy_top.specs.Conversing.{Walk, Converses, Tells}
use Rattle.lucy_top.specs.Ends.{Ends}
use Rattle.lucy_top.specs.Fetching.{PlanIsGiven}
use Rattle.lucy_top.specs.Script.{Script}
use Rattle.lucy_words.specs.declared.asked.Command.{Command}
use Rattle.lucy_words.specs.declared.asked.Command.TheVariants as command
use Rattle.lucy_words.specs.declared.error.WordsError.{WordsError}

-- the plan's name and the walk of a session of labels, where the words ask for one
abbrev pub session_by : Command → Option (List ℕ × Walk)
session_by (command.Label plan walk) = Some (plan, walk)
session_by _ = None

abbrev pub session_in : Outcome WordsError Command → Option (List ℕ × Walk)
session_in (Ok command) = session_by command
session_in (Err e) = None

-- No plan was had, and the call ended as that of each command which asks for one; nothing was taken.
pub record HasNoPlan (name : List ℕ) (told : Option Told) (old new : List Entry) (left_old left_new held_old held_new : Option (List ℕ)) (sf0 sf1 kf0 kf1 status : ℕ) : Type 0 where
  pub ends : (next : PlanParts → Script) → Ends (asks_plan name next) told old new held_old held_new kf0 kf1 status
  pub untaken : left_new ≡ left_old
  pub still : sf1 ≡ sf0

-- the start satisfies the invariant, and a session took place
pub record HasSession (plan : PlanParts) (walk : Walk) (left_old left_new held_old held_new : Option (List ℕ)) (sf0 sf1 kf0 kf1 status : ℕ) : Type 0 where
  pub start : IsWhole plan plan.start
  pub names : Names
  pub are : AreNamesOf plan names
  pub session : Converses walk (opening plan names) left_old left_new held_old held_new sf0 sf1 kf0 kf1 status

-- the start breaks the invariant, which is told; nothing was taken
pub record HasBadStart (plan : PlanParts) (left_old left_new held_old held_new : Option (List ℕ)) (sf0 sf1 kf0 kf1 status : ℕ) : Type 0 where
  pub start : is_whole plan plan.start ≡ false
  pub tells : Tells (start_breaks plan.start) 1 held_old held_new kf0 kf1 status
  pub untaken : left_new ≡ left_old
  pub still : sf1 ≡ sf0

-- memory ran out before a session began; nothing was taken or written
pub record HasNoMemory (left_old left_new held_old held_new : Option (List ℕ)) (sf0 sf1 status : ℕ) : Type 0 where
  pub status_is : status ≡ 7
  pub unwritten : held_new ≡ held_old
  pub untaken : left_new ≡ left_old
  pub still : sf1 ≡ sf0

-- a plan was had
abbrev pub Begins : PlanParts → Walk → Option (List ℕ) → Option (List ℕ) → Option (List ℕ) → Option (List ℕ) → ℕ → ℕ → ℕ → ℕ → ℕ → Type 0
Begins plan walk left_old left_new held_old held_new sf0 sf1 kf0 kf1 status =
    HasSession plan walk left_old left_new held_old held_new sf0 sf1 kf0 kf1 status
    ⊎ HasBadStart plan left_old left_new held_old held_new sf0 sf1 kf0 kf1 status
    ⊎ HasNoMemory left_old left_new held_old held_new sf0 sf1 status

-- a plan was given, and what came of it
pub record HasPlan (name : List ℕ) (walk : Walk) (told : Option Told) (old new : List Entry) (left_old left_new held_old held_new : Option (List ℕ)) (sf0 sf1 kf0 kf1 status : ℕ) : Type 0 where
  pub plan : PlanParts
  pub given : PlanIsGiven told name plan old new
  pub begins : Begins plan walk left_old left_new held_old held_new sf0 sf1 kf0 kf1 status

-- a whole call of `label`
abbrev pub Labels : List ℕ → Walk → Option Told → List Entry → List Entry → Option (List ℕ) → Option (List ℕ) → Option (List ℕ) → Option (List ℕ) → ℕ → ℕ → ℕ → ℕ → ℕ → Type 0
Labels name walk told old new left_old left_new held_old held_new sf0 sf1 kf0 kf1 status =
    HasNoPlan name told old new left_old left_new held_old held_new sf0 sf1 kf0 kf1 status
    ⊎ HasPlan name walk told old new left_old left_new held_old held_new sf0 sf1 kf0 kf1 status
