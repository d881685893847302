-- Which inputs each script asks for.
use Rattle.std.proofs.Common.{◌≡◌, ◌≢◌, ℕ, List, [], ◌∷◌, Option, Some, None, Ok, Err, refl}
use Rattle.lucy_io.specs.Outcomes as outcomes
use Rattle.lucy_judge.specs.declared.refusal.Refusal.{Refusal}
use Rattle.lucy_plan.specs.declared.parts.Call.{Call}
use Rattle.lucy_plan.specs.declared.parts.PlanParts.{PlanParts}
use Rattle.lucy_calls.specs.declared.steps.Step.{Step}
use Rattle.lucy_reading.specs.Calls.{work_read, steps_read}
use Rattle.lucy_reading.specs.Outcomes.{Outcome}
use Rattle.lucy_top.specs.Causes.{Asks}
use Rattle.lucy_top.specs.Commands.{asks_plan, asks_certificate, asks_work, asks_steps, check_script, certify_script, verify_script, replay_script, replay_made_script, help_script, make_plan_script, make_work_script, make_steps_script, drill_script, script_by, script_asked, script_meant, script_meant_asked, names_by, names_asked, run_script, run_made_script}
use Rattle.lucy_top.specs.Outcomes.{Choice, alone}
use Rattle.lucy_top.specs.Reading.{plan_said, judged}
use Rattle.lucy_top.specs.Script.{Script, takes}
use Rattle.lucy_words.specs.declared.asked.Command.{Command}
use Rattle.lucy_words.specs.declared.asked.Command.TheVariants as command
use Rattle.lucy_words.specs.declared.error.WordsError.{WordsError}
use Rattle.lucy_words.specs.declared.error.WordsError.TheVariants.{BadWords, OutOfMemory}

-- a text that is refused ends the script
takes_asks : {X : Type 0} (names : List (List ℕ)) (read : Outcome X) (next : X → Script) → ((x : X) → Asks names (next x)) → Asks names (takes read next)
unfolding takes
takes_asks names (Ok x) next asked = asked x
takes_asks names (Err line) next asked = tt

pub plan_asked : (names : List (List ℕ)) (name : List ℕ) (next : PlanParts → Script) → ((plan : PlanParts) → Asks names (next plan)) → Asks (name ∷ names) (asks_plan name next)
unfolding asks_plan
plan_asked names name next asked = (refl, λ text. takes_asks names (plan_said name text) next asked)

certificate_asked : (names : List (List ℕ)) (name : List ℕ) (plan : PlanParts) (next : Option Refusal → Script)
    → ((refusal : Option Refusal) → Asks names (next refusal)) → Asks (name ∷ names) (asks_certificate name plan next)
unfolding asks_certificate
certificate_asked names name plan next asked = (refl, λ text. takes_asks names (judged name plan text) next asked)

work_asked : (names : List (List ℕ)) (name : List ℕ) (plan : PlanParts) (next : List (List Call) → Script)
    → ((work : List (List Call)) → Asks names (next work)) → Asks (name ∷ names) (asks_work name plan next)
unfolding asks_work
work_asked names name plan next asked = (refl, λ text. takes_asks names (work_read name plan text) next asked)

steps_asked : (names : List (List ℕ)) (name : List ℕ) (replicas : ℕ) (next : List Step → Script) → ((steps : List Step) → Asks names (next steps)) → Asks (name ∷ names) (asks_steps name replicas next)
unfolding asks_steps
steps_asked names name replicas next asked = (refl, λ text. takes_asks names (steps_read name replicas text) next asked)

check_asks : (plan : List ℕ) → Asks (plan ∷ []) (check_script plan)
unfolding check_script
check_asks plan = plan_asked [] plan _ (λ p. tt)

certify_asks : (plan : List ℕ) → Asks (plan ∷ []) (certify_script plan)
unfolding certify_script
certify_asks plan = plan_asked [] plan _ (λ p. tt)

verify_asks : (plan certificate : List ℕ) → Asks (plan ∷ certificate ∷ []) (verify_script plan certificate)
unfolding verify_script
verify_asks plan certificate = plan_asked (certificate ∷ []) plan _ (λ p. certificate_asked [] certificate p _ (λ refusal. tt))

replay_asks : (plan certificate work steps : List ℕ) → Asks (plan ∷ certificate ∷ work ∷ steps ∷ []) (replay_script plan certificate work steps)
unfolding replay_script
replay_asks plan certificate work steps =
    plan_asked (certificate ∷ work ∷ steps ∷ []) plan _ (λ p. certificate_asked (work ∷ steps ∷ []) certificate p _ (λ refusal.
    work_asked (steps ∷ []) work p _ (λ lists. steps_asked [] steps _ _ (λ found. tt))))

replay_made_asks : (plan work steps : List ℕ) → Asks (plan ∷ work ∷ steps ∷ []) (replay_made_script plan work steps)
unfolding replay_made_script
replay_made_asks plan work steps = plan_asked (work ∷ steps ∷ []) plan _ (λ p. work_asked (steps ∷ []) work p _ (λ lists. steps_asked [] steps _ _ (λ found. tt)))

make_work_asks : (plan : List ℕ) (seed replicas calls : ℕ) → Asks (plan ∷ []) (make_work_script plan seed replicas calls)
unfolding make_work_script
make_work_asks plan seed replicas calls = plan_asked [] plan _ (λ p. tt)

make_steps_asks : (plan work : List ℕ) (seed rounds : ℕ) → Asks (plan ∷ work ∷ []) (make_steps_script plan work seed rounds)
unfolding make_steps_script
make_steps_asks plan work seed rounds = plan_asked (work ∷ []) plan _ (λ p. work_asked [] work p _ (λ lists. tt))

drill_asks : (seed size : ℕ) → Asks [] (drill_script seed size)
unfolding drill_script
drill_asks seed size = takes_asks [] _ _ (λ p. tt)

make_plan_asks : (seed size : ℕ) → Asks [] (make_plan_script seed size)
unfolding make_plan_script
make_plan_asks seed size = tt

help_asks : Asks [] help_script
unfolding help_script
help_asks = tt

run_asks : (choice : Choice) (plan certificate work : List ℕ) → Asks (plan ∷ certificate ∷ work ∷ []) (run_script choice plan certificate work)
unfolding run_script
run_asks choice plan certificate work =
    plan_asked (certificate ∷ work ∷ []) plan _ (λ p. certificate_asked (work ∷ []) certificate p _ (λ refusal. work_asked [] work p _ (λ lists. tt)))

run_made_asks : (choice : Choice) (plan work : List ℕ) → Asks (plan ∷ work ∷ []) (run_made_script choice plan work)
unfolding run_made_script
run_made_asks choice plan work = plan_asked (work ∷ []) plan _ (λ p. work_asked [] work p _ (λ lists. tt))

-- the same names are asked for, whichever outcome is meant
meant_asks : (choice : Choice) (c : Command) → Asks (names_by c) (script_meant choice c)
meant_asks choice (command.Run plan None work seed) = run_made_asks choice plan work
meant_asks choice (command.Run plan (Some certificate) work seed) = run_asks choice plan certificate work
meant_asks choice (command.Check plan) = check_asks plan
meant_asks choice (command.Certify plan) = certify_asks plan
meant_asks choice (command.Verify plan certificate) = verify_asks plan certificate
meant_asks choice (command.Replay plan None work steps) = replay_made_asks plan work steps
meant_asks choice (command.Replay plan (Some certificate) work steps) = replay_asks plan certificate work steps
meant_asks choice (command.MakePlan seed size) = make_plan_asks seed size
meant_asks choice (command.MakeWork plan seed replicas calls) = make_work_asks plan seed replicas calls
meant_asks choice (command.MakeSteps plan work seed rounds) = make_steps_asks plan work seed rounds
meant_asks choice (command.Drill seed size) = drill_asks seed size
meant_asks choice command.Help = help_asks
meant_asks choice _ = tt

pub asks_meant : (choice : Choice) (asked : outcomes.Outcome WordsError Command) → Asks (names_asked asked) (script_meant_asked choice asked)
asks_meant choice (Ok command) = meant_asks choice command
asks_meant choice (Err (BadWords at)) = tt
asks_meant choice (Err OutOfMemory) = tt

-- the outcome that is meant matters for a run alone
pub meant_alike : (one other : Choice) (c : Command) → ((plan : List ℕ) (certificate : Option (List ℕ)) (work : List ℕ) (seed : ℕ) → c ≢ command.Run plan certificate work seed)
    → script_meant one c ≡ script_meant other c
meant_alike one other (command.Run plan certificate work seed) no_run = absurd (no_run plan certificate work seed refl)
meant_alike one other _ no_run = refl

-- a script is that of one thread alone
alone_by : (c : Command) → script_meant alone c ≡ script_by c
alone_by (command.Run plan None work seed) = refl
alone_by (command.Run plan (Some certificate) work seed) = refl
alone_by _ = refl

pub alone_asked : (asked : outcomes.Outcome WordsError Command) → script_meant_asked alone asked ≡ script_asked asked
alone_asked (Ok command) = alone_by command
alone_asked (Err e) = refl
