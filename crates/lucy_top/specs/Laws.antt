-- What is known of the lines of every list of steps, of what good inputs come to, and of what a status tells.
use Rattle.std.specs.Prelude.{◌≡◌, ◌⊎◌, ◌↔◌, ℕ, ℤ, ◌≤◌, ◌^◌, List, [], ◌++◌, length, codes, Option, Some, None, Ok}
use Rattle.std.specs.Io.KnownBytes.{Appends}
use Rattle.lucy_judge.specs.declared.refusal.Refusal.{Refusal}
use Rattle.lucy_plan.specs.Soundness.{IsSound}
use Rattle.lucy_plan.specs.declared.parts.Call.{Call}
use Rattle.lucy_plan.specs.declared.parts.PlanParts.{PlanParts}
use Rattle.lucy_calls.specs.Texts.{work_text, steps_text}
use Rattle.lucy_calls.specs.declared.steps.Step.{Step}
use Rattle.lucy_core.specs.Steps.{world_after}
use Rattle.lucy_core.specs.Worlds.{World}
use Rattle.lucy_expr.specs.Trees.{Tree}
use Rattle.lucy_io.specs.Inputs.{Entry, Told}
use Rattle.lucy_make.specs.Plans.{made_plan}
use Rattle.lucy_make.specs.Steps.{made_steps}
use Rattle.lucy_make.specs.Work.{made_work}
use Rattle.lucy_names.specs.Plans.{txn_names}
use Rattle.lucy_reading.specs.Calls.{work_read, steps_read}
use Rattle.lucy_report.specs.LabelTexts.{confluent, not_confluent, undecided}
use Rattle.lucy_report.specs.VerdictLines.{start_breaks}
use Rattle.lucy_session.specs.Laws.{IsConfluent, IsConfluentWithout}
use Rattle.lucy_session.specs.Sessions.{Means, roomy}
use Rattle.lucy_session.specs.declared.answers.Next.TheVariants.{Broken}
use Rattle.lucy_top.specs.Causes.{ComesTo}
use Rattle.lucy_top.specs.Commands.{script_of}
use Rattle.lucy_top.specs.Conversing.{Walk}
use Rattle.lucy_top.specs.Drills.{drill_work, drill_steps}
use Rattle.lucy_top.specs.Fetching.{PlanIsGiven}
use Rattle.lucy_top.specs.Labelling.{Labels}
use Rattle.lucy_top.specs.Reading.{plan_said, judged}
use Rattle.lucy_top.specs.Replays.{run_lines, IsSafeThroughout}
use Rattle.lucy_top.specs.Verdicts.{exactly, answered, finds, certifies, verifies, replays, replays_if_sound, drills, Says, runs, runs_if_sound}
use Rattle.lucy_top.specs.Outcomes.{Choice, alone, HasRun}
use Rattle.lucy_words.specs.Commands.{command_of}
use Rattle.lucy_words.specs.Help.{help_text}
use Rattle.lucy_words.specs.declared.asked.Command.TheVariants as command

-- the lines of two lists of steps are those of the first, and those of the second from the world after the first on
abbrev pub LinesJoin : Type 0
LinesJoin = (w : World) (first second : List Step) → run_lines w (first ++ second) ≡ run_lines w first ++ run_lines (world_after w first) second

-- ---- good inputs

-- the input of this name is there, within this limit, and these bytes
pub record IsThere (t : Told) (name : List ℕ) (most : ℕ) (text : List ℕ) : Type 0 where
  pub there : t name ≡ Some text
  pub few : length text ≤ most

-- the input of this name is there and says this plan
pub record SaysPlan (t : Told) (name : List ℕ) (plan : PlanParts) : Type 0 where
  pub text : List ℕ
  pub is_there : IsThere t name (2 ^ 20) text
  pub says : plan_said name text ≡ Ok plan

-- the input of this name is there and is a certificate that is refused so for the plan, or is not refused
pub record SaysRefusal (t : Told) (name : List ℕ) (plan : PlanParts) (refusal : Option Refusal) : Type 0 where
  pub text : List ℕ
  pub is_there : IsThere t name (2 ^ 26) text
  pub says : judged name plan text ≡ Ok refusal

-- the input of this name is there and says this work for the plan
pub record SaysWork (t : Told) (name : List ℕ) (plan : PlanParts) (work : List (List Call)) : Type 0 where
  pub text : List ℕ
  pub is_there : IsThere t name (2 ^ 25) text
  pub says : work_read name plan text ≡ Ok work

-- the input of this name is there and says these steps for so many replicas
pub record SaysSteps (t : Told) (name : List ℕ) (replicas : ℕ) (steps : List Step) : Type 0 where
  pub text : List ℕ
  pub is_there : IsThere t name (2 ^ 20) text
  pub says : steps_read name replicas text ≡ Ok steps

-- Where the inputs that the words name are there, within their limits and in their forms, the words come to the verdict on what they say.
pub record GoodInputsComeToTheirVerdict : Type 0 where
  pub check : (words : List (List ℕ)) (t : Told) (plan_name : List ℕ) (plan : PlanParts)
      → command_of words ≡ Ok (command.Check plan_name) → SaysPlan t plan_name plan → ComesTo (script_of words) t (finds plan)
  pub certify : (words : List (List ℕ)) (t : Told) (plan_name : List ℕ) (plan : PlanParts)
      → command_of words ≡ Ok (command.Certify plan_name) → SaysPlan t plan_name plan → ComesTo (script_of words) t (certifies plan)
  pub verify : (words : List (List ℕ)) (t : Told) (plan_name certificate_name : List ℕ) (plan : PlanParts) (refusal : Option Refusal)
      → command_of words ≡ Ok (command.Verify plan_name certificate_name) → SaysPlan t plan_name plan → SaysRefusal t certificate_name plan refusal
      → ComesTo (script_of words) t (verifies plan refusal)
  pub replay : (words : List (List ℕ)) (t : Told) (plan_name certificate_name work_name steps_name : List ℕ) (plan : PlanParts) (refusal : Option Refusal)
      (work : List (List Call)) (steps : List Step)
      → command_of words ≡ Ok (command.Replay plan_name (Some certificate_name) work_name steps_name)
      → SaysPlan t plan_name plan → SaysRefusal t certificate_name plan refusal → SaysWork t work_name plan work → SaysSteps t steps_name (length work) steps
      → ComesTo (script_of words) t (replays plan refusal work steps)
  pub replay_made : (words : List (List ℕ)) (t : Told) (plan_name work_name steps_name : List ℕ) (plan : PlanParts) (work : List (List Call)) (steps : List Step)
      → command_of words ≡ Ok (command.Replay plan_name None work_name steps_name)
      → SaysPlan t plan_name plan → SaysWork t work_name plan work → SaysSteps t steps_name (length work) steps
      → ComesTo (script_of words) t (replays_if_sound plan work steps)
  pub help : (words : List (List ℕ)) (t : Told) → command_of words ≡ Ok command.Help → ComesTo (script_of words) t (exactly answered help_text)
  pub make_plan : (words : List (List ℕ)) (t : Told) (seed size : ℕ)
      → command_of words ≡ Ok (command.MakePlan seed size) → ComesTo (script_of words) t (exactly answered (made_plan seed size))
  pub make_work : (words : List (List ℕ)) (t : Told) (plan_name : List ℕ) (seed replicas calls : ℕ) (plan : PlanParts)
      → command_of words ≡ Ok (command.MakeWork plan_name seed replicas calls) → SaysPlan t plan_name plan
      → ComesTo (script_of words) t (exactly answered (work_text (txn_names plan) (made_work plan seed replicas calls)))
  pub make_steps : (words : List (List ℕ)) (t : Told) (plan_name work_name : List ℕ) (seed rounds : ℕ) (plan : PlanParts) (work : List (List Call))
      → command_of words ≡ Ok (command.MakeSteps plan_name work_name seed rounds) → SaysPlan t plan_name plan → SaysWork t work_name plan work
      → ComesTo (script_of words) t (exactly answered (steps_text (made_steps (length work) seed rounds)))
  -- the plan that is made is read as an input named `drill` would be
  pub drill : (words : List (List ℕ)) (t : Told) (seed size : ℕ) (plan : PlanParts)
      → command_of words ≡ Ok (command.Drill seed size) → plan_said (codes "drill") (made_plan seed size) ≡ Ok plan
      → ComesTo (script_of words) t (drills plan seed size)
  pub run : (words : List (List ℕ)) (t : Told) (plan_name certificate_name work_name : List ℕ) (seed : ℕ) (plan : PlanParts) (refusal : Option Refusal) (work : List (List Call))
      → command_of words ≡ Ok (command.Run plan_name (Some certificate_name) work_name seed)
      → SaysPlan t plan_name plan → SaysRefusal t certificate_name plan refusal → SaysWork t work_name plan work
      → ComesTo (script_of words) t (runs alone plan refusal work)
  pub run_made : (words : List (List ℕ)) (t : Told) (plan_name work_name : List ℕ) (seed : ℕ) (plan : PlanParts) (work : List (List Call))
      → command_of words ≡ Ok (command.Run plan_name None work_name seed)
      → SaysPlan t plan_name plan → SaysWork t work_name plan work
      → ComesTo (script_of words) t (runs_if_sound alone plan work)

-- ---- statuses

-- What the status of a verdict tells.
pub record StatusTellsSoundness : Type 0 where
  -- of `check` and `certify` it is 0 exactly where the plan is sound, and else 1
  pub check : (plan : PlanParts) (status : ℕ) (text : List ℕ) → Says (finds plan) status text → (status ≡ 0) ↔ IsSound plan
  pub certify : (plan : PlanParts) (status : ℕ) (text : List ℕ) → Says (certifies plan) status text → (status ≡ 0) ↔ IsSound plan
  -- of `verify` it is 0 exactly where the certificate is not refused, and then the plan is sound
  pub verify : (plan : PlanParts) (refusal : Option Refusal) (status : ℕ) (text : List ℕ) → Says (verifies plan refusal) status text → (status ≡ 0) ↔ (refusal ≡ None)
  pub verified : (plan : PlanParts) (refusal : Option Refusal) (text : List ℕ) → Says (verifies plan refusal) 0 text → IsSound plan
  -- of `replay` it is 0 exactly where the certificate is not refused, or without one where the plan is sound
  pub replay : (plan : PlanParts) (refusal : Option Refusal) (work : List (List Call)) (steps : List Step) (status : ℕ) (text : List ℕ)
      → Says (replays plan refusal work steps) status text → (status ≡ 0) ↔ (refusal ≡ None)
  pub replay_made : (plan : PlanParts) (work : List (List Call)) (steps : List Step) (status : ℕ) (text : List ℕ)
      → Says (replays_if_sound plan work steps) status text → (status ≡ 0) ↔ IsSound plan
  -- and then the plan is sound, and the world is safe after each front of the steps
  pub replayed : (plan : PlanParts) (refusal : Option Refusal) (work : List (List Call)) (steps : List Step) (text : List ℕ)
      → Says (replays plan refusal work steps) 0 text → IsSound plan × IsSafeThroughout plan work steps
  pub replayed_made : (plan : PlanParts) (work : List (List Call)) (steps : List Step) (text : List ℕ)
      → Says (replays_if_sound plan work steps) 0 text → IsSound plan × IsSafeThroughout plan work steps
  -- of `drill` it is 0 exactly where the made plan is sound, and then the world is safe after each front of the steps
  pub drill : (plan : PlanParts) (seed size status : ℕ) (text : List ℕ) → Says (drills plan seed size) status text → (status ≡ 0) ↔ IsSound plan
  pub drilled : (plan : PlanParts) (seed size : ℕ) (text : List ℕ)
      → Says (drills plan seed size) 0 text → IsSound plan × IsSafeThroughout plan (drill_work plan seed) (drill_steps seed)
  -- of `run` it is 0 exactly where the certificate is not refused, or without one where the plan is sound
  pub run : (choice : Choice) (plan : PlanParts) (refusal : Option Refusal) (work : List (List Call)) (status : ℕ) (text : List ℕ)
      → Says (runs choice plan refusal work) status text → (status ≡ 0) ↔ (refusal ≡ None)
  pub run_made : (choice : Choice) (plan : PlanParts) (work : List (List Call)) (status : ℕ) (text : List ℕ)
      → Says (runs_if_sound choice plan work) status text → (status ≡ 0) ↔ IsSound plan
  -- and then the plan is sound, and the text is that of a legal outcome, the one that is meant
  pub has_run : (choice : Choice) (plan : PlanParts) (refusal : Option Refusal) (work : List (List Call)) (text : List ℕ)
      → Says (runs choice plan refusal work) 0 text → HasRun choice plan work 0 text
  pub has_run_made : (choice : Choice) (plan : PlanParts) (work : List (List Call)) (text : List ℕ)
      → Says (runs_if_sound choice plan work) 0 text → HasRun choice plan work 0 text

-- the text that `certify` writes is accepted as a certificate of the plan, if it is within 64 MiB
abbrev pub CertifiedIsVerified : Type 0
CertifiedIsVerified = (name text : List ℕ) (plan : PlanParts) → Says (certifies plan) 0 text → length text ≤ 2 ^ 26 → judged name plan text ≡ Ok None

-- ---- sessions of labels

-- the end of the text says that the plan is confluent if none of these states is reached, and it is so; with no such state it is confluent
pub record SaysConfluent (plan : PlanParts) (held_old held_new : Option (List ℕ)) : Type 0 where
  pub points : List (List ℤ)
  pub before : List ℕ
  pub written : Appends held_old held_new (before ++ confluent points)
  pub means : IsConfluentWithout plan points
  pub without_points : points ≡ [] → IsConfluent plan

-- the end of the text shows two expressions that are reached and whose merge breaks the invariant, and so the plan is not confluent
pub record SaysNotConfluent (plan : PlanParts) (held_old held_new : Option (List ℕ)) : Type 0 where
  pub left : Tree
  pub right : Tree
  pub before : List ℕ
  pub written : Appends held_old held_new (before ++ not_confluent (txn_names plan) left right)
  pub shows : Means plan [] (Broken (roomy left) (roomy right))
  pub means : ¬ IsConfluent plan

-- the end of the text says that nothing is decided
pub record SaysUndecided (held_old held_new : Option (List ℕ)) : Type 0 where
  pub before : List ℕ
  pub written : Appends held_old held_new (before ++ undecided)

-- a plan was given, and this is so of it
pub record OfPlan (told : Option Told) (name : List ℕ) (old new : List Entry) (P : PlanParts → Type 0) : Type 0 where
  pub plan : PlanParts
  pub given : PlanIsGiven told name plan old new
  pub is_so : P plan

-- What the status of `label` tells: 0 that the plan is confluent if none of the states that are written is reached; 1 that it is not, or that nothing
-- is decided, or that its start breaks the invariant.
pub record StatusTellsConfluence : Type 0 where
  pub zero : (name : List ℕ) (walk : Walk) (told : Option Told) (old new : List Entry) (left_old left_new held_old held_new : Option (List ℕ)) (sf0 sf1 kf0 kf1 : ℕ)
      → Labels name walk told old new left_old left_new held_old held_new sf0 sf1 kf0 kf1 0 → OfPlan told name old new (λ plan. SaysConfluent plan held_old held_new)
  pub one : (name : List ℕ) (walk : Walk) (told : Option Told) (old new : List Entry) (left_old left_new held_old held_new : Option (List ℕ)) (sf0 sf1 kf0 kf1 : ℕ)
      → Labels name walk told old new left_old left_new held_old held_new sf0 sf1 kf0 kf1 1
      → OfPlan told name old new (λ plan. SaysNotConfluent plan held_old held_new ⊎ SaysUndecided held_old held_new ⊎ Appends held_old held_new (start_breaks plan.start))
