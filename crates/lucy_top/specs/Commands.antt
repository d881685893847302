-- What each form of words asks for and answers.
use Rattle.std.specs.Prelude.{ℕ, ◌^◌, List, [], ◌∷◌, length, codes, Option, Some, None, Ok, Err}
use Rattle.lucy_io.specs.Outcomes.{Outcome}
use Rattle.lucy_judge.specs.declared.refusal.Refusal.{Refusal}
use Rattle.lucy_plan.specs.declared.parts.Call.{Call}
use Rattle.lucy_plan.specs.declared.parts.PlanParts.{PlanParts}
use Rattle.lucy_calls.specs.Texts.{work_text, steps_text}
use Rattle.lucy_calls.specs.declared.steps.Step.{Step}
use Rattle.lucy_make.specs.Plans.{made_plan}
use Rattle.lucy_make.specs.Steps.{made_steps}
use Rattle.lucy_make.specs.Work.{made_work}
use Rattle.lucy_names.specs.Plans.{txn_names}
use Rattle.lucy_reading.specs.Calls.{work_read, steps_read}
use Rattle.lucy_report.specs.FaultLines as lines
use Rattle.lucy_top.specs.Outcomes.{Choice, alone}
use Rattle.lucy_top.specs.Reading.{plan_said, judged}
use Rattle.lucy_top.specs.Script.{Script, ends, asks, takes}
use Rattle.lucy_top.specs.Verdicts.{exactly, finds, certifies, verifies, replays, replays_if_sound, drills, answered, bad_words, runs, runs_if_sound}
use Rattle.lucy_words.specs.Commands.{command_of}
use Rattle.lucy_words.specs.Help.{help_text}
use Rattle.lucy_words.specs.declared.asked.Command.{Command}
use Rattle.lucy_words.specs.declared.asked.Command.TheVariants as command
use Rattle.lucy_words.specs.declared.error.WordsError.{WordsError}
use Rattle.lucy_words.specs.declared.error.WordsError.TheVariants.{BadWords, OutOfMemory}

-- ---- inputs

-- a plan has 1 MiB at the most
unfoldable pub asks_plan : List ℕ → (PlanParts → Script) → Script
asks_plan name next = asks name (2 ^ 20) λ text. takes (plan_said name text) next

-- A certificate has 64 MiB at the most. A command goes on by why it is refused for the plan, if it is.
unfoldable pub asks_certificate : List ℕ → PlanParts → (Option Refusal → Script) → Script
asks_certificate name plan next = asks name (2 ^ 26) λ text. takes (judged name plan text) next

-- a work text has 32 MiB at the most
unfoldable pub asks_work : List ℕ → PlanParts → (List (List Call) → Script) → Script
asks_work name plan next = asks name (2 ^ 25) λ text. takes (work_read name plan text) next

-- a step script has 1 MiB at the most
unfoldable pub asks_steps : List ℕ → ℕ → (List Step → Script) → Script
asks_steps name replicas next = asks name (2 ^ 20) λ text. takes (steps_read name replicas text) next

-- ---- commands

-- `check PLAN`
unfoldable pub check_script : List ℕ → Script
check_script plan_name = asks_plan plan_name λ plan. ends (finds plan)

-- `certify PLAN`
unfoldable pub certify_script : List ℕ → Script
certify_script plan_name = asks_plan plan_name λ plan. ends (certifies plan)

-- `verify PLAN CERT`
unfoldable pub verify_script : List ℕ → List ℕ → Script
verify_script plan_name certificate_name = asks_plan plan_name λ plan. asks_certificate certificate_name plan λ refusal. ends (verifies plan refusal)

-- `replay PLAN CERT WORK STEPS`: why the certificate is refused is told once all inputs are read
unfoldable pub replay_script : List ℕ → List ℕ → List ℕ → List ℕ → Script
replay_script plan_name certificate_name work_name steps_name =
    asks_plan plan_name λ plan. asks_certificate certificate_name plan λ refusal. asks_work work_name plan λ work.
    asks_steps steps_name (length work) λ steps. ends (replays plan refusal work steps)

-- `replay PLAN - WORK STEPS`: the certificate is made in this call
unfoldable pub replay_made_script : List ℕ → List ℕ → List ℕ → Script
replay_made_script plan_name work_name steps_name =
    asks_plan plan_name λ plan. asks_work work_name plan λ work.
    asks_steps steps_name (length work) λ steps. ends (replays_if_sound plan work steps)

-- `help`: a line for each form of words
unfoldable pub help_script : Script
help_script = ends (exactly answered help_text)

-- `make-plan SEED SIZE`
unfoldable pub make_plan_script : ℕ → ℕ → Script
make_plan_script seed size = ends (exactly answered (made_plan seed size))

-- `make-work PLAN SEED REPLICAS CALLS`
unfoldable pub make_work_script : List ℕ → ℕ → ℕ → ℕ → Script
make_work_script plan_name seed replicas calls = asks_plan plan_name λ plan. ends (exactly answered (work_text (txn_names plan) (made_work plan seed replicas calls)))

-- `make-steps PLAN WORK SEED ROUNDS`: steps for the replicas of the work
unfoldable pub make_steps_script : List ℕ → List ℕ → ℕ → ℕ → Script
make_steps_script plan_name work_name seed rounds =
    asks_plan plan_name λ plan. asks_work work_name plan λ work. ends (exactly answered (steps_text (made_steps (length work) seed rounds)))

-- `drill SEED SIZE`: the plan is made, and read as an input named `drill` would be
unfoldable pub drill_script : ℕ → ℕ → Script
drill_script seed size = takes (plan_said (codes "drill") (made_plan seed size)) λ plan. ends (drills plan seed size)

-- `run PLAN CERT WORK SEED`, with the outcome that is meant: why the certificate is refused is told once all inputs are read
unfoldable pub run_script : Choice → List ℕ → List ℕ → List ℕ → Script
run_script choice plan_name certificate_name work_name =
    asks_plan plan_name λ plan. asks_certificate certificate_name plan λ refusal. asks_work work_name plan λ work. ends (runs choice plan refusal work)

-- `run PLAN - WORK SEED`: the certificate is made in this call
unfoldable pub run_made_script : Choice → List ℕ → List ℕ → Script
run_made_script choice plan_name work_name = asks_plan plan_name λ plan. asks_work work_name plan λ work. ends (runs_if_sound choice plan work)

-- ---- words

-- a session of labels goes by no script
abbrev pub script_by : Command → Script
script_by (command.Check plan) = check_script plan
script_by (command.Certify plan) = certify_script plan
script_by (command.Verify plan certificate) = verify_script plan certificate
script_by (command.Replay plan None work steps) = replay_made_script plan work steps
script_by (command.Replay plan (Some certificate) work steps) = replay_script plan certificate work steps
script_by (command.MakePlan seed size) = make_plan_script seed size
script_by (command.MakeWork plan seed replicas calls) = make_work_script plan seed replicas calls
script_by (command.MakeSteps plan work seed rounds) = make_steps_script plan work seed rounds
script_by (command.Drill seed size) = drill_script seed size
script_by command.Help = help_script
script_by (command.Run plan None work seed) = run_made_script alone plan work
script_by (command.Run plan (Some certificate) work seed) = run_script alone plan certificate work
script_by (command.Label plan walk) = ends (exactly bad_words [])

abbrev pub script_asked : Outcome WordsError Command → Script
script_asked (Ok command) = script_by command
script_asked (Err (BadWords at)) = ends (exactly bad_words (lines.bad_words at))
script_asked (Err OutOfMemory) = ends (exactly bad_words [])

-- what a call on these words does
abbrev pub script_of : List (List ℕ) → Script
script_of words = script_asked (command_of words)

-- the same, with the outcome that is meant where they ask for a run
abbrev pub script_meant : Choice → Command → Script
script_meant choice (command.Run plan None work seed) = run_made_script choice plan work
script_meant choice (command.Run plan (Some certificate) work seed) = run_script choice plan certificate work
script_meant choice command = script_by command

abbrev pub script_meant_asked : Choice → Outcome WordsError Command → Script
script_meant_asked choice (Ok command) = script_meant choice command
script_meant_asked choice (Err e) = script_asked (Err e)

abbrev pub script_with : Choice → List (List ℕ) → Script
script_with choice words = script_meant_asked choice (command_of words)

abbrev pub names_by : Command → List (List ℕ)
names_by (command.Check plan) = plan ∷ []
names_by (command.Certify plan) = plan ∷ []
names_by (command.Verify plan certificate) = plan ∷ certificate ∷ []
names_by (command.Replay plan None work steps) = plan ∷ work ∷ steps ∷ []
names_by (command.Replay plan (Some certificate) work steps) = plan ∷ certificate ∷ work ∷ steps ∷ []
names_by (command.Label plan walk) = plan ∷ []
names_by (command.MakeWork plan seed replicas calls) = plan ∷ []
names_by (command.MakeSteps plan work seed rounds) = plan ∷ work ∷ []
names_by (command.Run plan None work seed) = plan ∷ work ∷ []
names_by (command.Run plan (Some certificate) work seed) = plan ∷ certificate ∷ work ∷ []
names_by _ = []

abbrev pub names_asked : Outcome WordsError Command → List (List ℕ)
names_asked (Ok command) = names_by command
names_asked (Err e) = []

-- the inputs that the words name, in their order
abbrev pub names_in : List (List ℕ) → List (List ℕ)
names_in words = names_asked (command_of words)
