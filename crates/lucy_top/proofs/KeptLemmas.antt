-- The outcome of a run is there exactly where the status is 0.
use Rattle.std.proofs.Common.{◌≡◌, ◌⊎◌, ℕ, zero, suc, true, false, List, [], ◌∷◌, Option, Some, None, refl, sym, ap, subst, ◌∙◌, inl, inr, arith}
use Rattle.std.specs.Prelude.{◌↔◌, IsTrue, IfSome, Ok, Err}
use Rattle.std.specs.Option.{is_some}
use Rattle.lucy_core.specs.declared.outcome.Outcome.{Outcome}
use Rattle.lucy_io.specs.Inputs.{Entry, Told}
use Rattle.lucy_io.specs.Outcomes as outcomes
use Rattle.lucy_io.specs.declared.inputs.Ending.{Ending}
use Rattle.lucy_io.specs.declared.inputs.Ending.TheVariants.{Given, Absent, Failed}
use Rattle.lucy_judge.specs.declared.refusal.Refusal.{Refusal}
use Rattle.lucy_plan.specs.declared.parts.Call.{Call}
use Rattle.lucy_plan.specs.declared.parts.PlanParts.{PlanParts}
use Rattle.lucy_reading.specs.Calls.{work_read}
use Rattle.lucy_reading.specs.Outcomes.{Outcome as Read}
use Rattle.lucy_top.specs.Commands.{asks_plan, asks_certificate, asks_work, run_script, run_made_script, script_meant_asked, script_with}
use Rattle.lucy_top.specs.Ends.{Ends}
use Rattle.lucy_top.specs.Outcomes.{kept, asks_run}
use Rattle.lucy_top.specs.Reading.{plan_said, judged}
use Rattle.lucy_top.specs.Script.{Script, ends, asks, takes, Gave, IsTooLong, IsAbsent, HasFailed, OnEnding, Ran}
use Rattle.lucy_top.specs.Verdicts.{runs, runs_if_sound, Says}
use Rattle.lucy_words.specs.Commands.{command_of}
use Rattle.lucy_words.specs.declared.asked.Command.{Command}
use Rattle.lucy_words.specs.declared.asked.Command.TheVariants as command
use Rattle.lucy_words.specs.declared.error.WordsError.{WordsError}

-- whatever the inputs are, the status is not 0
abbrev NeverZero : Script → Type 0
NeverZero (ends v) = (text : List ℕ) → Says v 0 text → ⊥
NeverZero (asks name most next) = (bytes : List ℕ) → NeverZero (next bytes)

never_by : (told : Option Told) (name : List ℕ) (most : ℕ) (next : List ℕ → Script) (ending : Ending) (es : List Entry) (text : List ℕ)
    → ((bytes : List ℕ) → Ran (next bytes) told es 0 text → ⊥)
    → OnEnding ending (((bytes : List ℕ) × Gave told name most bytes × Ran (next bytes) told es 0 text) ⊎ IsTooLong told name most es 0 text) (IsAbsent told name es 0 text) (HasFailed name es 0 text) → ⊥
never_by told name most next Given es text never (inl ran) = never ran.0 ran.2
never_by told name most next Given es text never (inr long) = omega (arith, long.status_is)
never_by told name most next Absent es text never ended = omega (arith, ended.status_is)
never_by told name most next Failed es text never ended = omega (arith, ended.status_is)

ran_never : (script : Script) (told : Option Told) (added : List Entry) (text : List ℕ) → NeverZero script → Ran script told added 0 text → ⊥
ran_never (ends v) told [] text never ran = never text ran
ran_never (ends v) told (e ∷ es) text never ran = ran
ran_never (asks name most next) told [] text never ran = ran
ran_never (asks name most next) told (e ∷ es) text never ran = never_by told name most next e.ending es text (λ bytes r. ran_never (next bytes) told es text (never bytes) r) ran.1

-- ---- a run that kept nothing
takes_never : {X : Type 0} (read : Read X) (next : X → Script) → ((x : X) → NeverZero (next x)) → NeverZero (takes read next)
unfolding takes
takes_never (Ok x) next never = never x
takes_never (Err line) next never = λ text says. omega (arith, says.0)

plan_never : (name : List ℕ) (next : PlanParts → Script) → ((plan : PlanParts) → NeverZero (next plan)) → NeverZero (asks_plan name next)
unfolding asks_plan
plan_never name next never = λ text. takes_never (plan_said name text) next never

certificate_never : (name : List ℕ) (plan : PlanParts) (next : Option Refusal → Script) → ((refusal : Option Refusal) → NeverZero (next refusal)) → NeverZero (asks_certificate name plan next)
unfolding asks_certificate
certificate_never name plan next never = λ text. takes_never (judged name plan text) next never

work_never : (name : List ℕ) (plan : PlanParts) (next : List (List Call) → Script) → ((work : List (List Call)) → NeverZero (next work)) → NeverZero (asks_work name plan next)
unfolding asks_work
work_never name plan next never = λ text. takes_never (work_read name plan text) next never

none_run : (plan : PlanParts) (refusal : Option Refusal) (work : List (List Call)) (text : List ℕ) → Says (runs (kept None) plan refusal work) 0 text → ⊥
none_run plan None work text says = let lost = says.is_meant in cc
none_run plan (Some refusal) work text says = omega (arith, says.status_is)

none_run_made : (plan : PlanParts) (work : List (List Call)) (text : List ℕ) → Says (runs_if_sound (kept None) plan work) 0 text → ⊥
none_run_made plan work text (inl says) = let lost = says.is_meant in cc
none_run_made plan work text (inr says) = omega (arith, says.status_is)

run_never : (plan certificate work : List ℕ) → NeverZero (run_script (kept None) plan certificate work)
unfolding run_script
run_never plan certificate work = plan_never plan _ (λ p. certificate_never certificate p _ (λ refusal. work_never work p _ (λ lists. none_run p refusal lists)))

run_made_never : (plan work : List ℕ) → NeverZero (run_made_script (kept None) plan work)
unfolding run_made_script
run_made_never plan work = plan_never plan _ (λ p. work_never work p _ (λ lists. none_run_made p lists))

asked_never : (asked : outcomes.Outcome WordsError Command) → asks_run asked ≡ true → NeverZero (script_meant_asked (kept None) asked)
asked_never (Ok (command.Run plan None work seed)) is = run_made_never plan work
asked_never (Ok (command.Run plan (Some certificate) work seed)) is = run_never plan certificate work
asked_never (Ok _) is = absurd cc
asked_never (Err e) is = absurd cc

-- ---- the clauses of a whole call
module _ (words : List (List ℕ)) (told : Option Told) (old new : List Entry) (h0 h1 : Option (List ℕ)) (f0 f1 : ℕ) where
  -- a run with status 0 kept its outcome
  kept_of : (slot : Option Outcome) → asks_run (command_of words) ≡ true → Ends (script_with (kept slot) words) told old new h0 h1 f0 f1 0 → IsTrue (is_some slot)
  kept_of (Some outcome) asked e = refl
  kept_of None asked e = absurd (elim e.way [
    | inl w ↦ ran_never (script_with (kept None) words) told e.added w.text (asked_never (command_of words) asked) w.ran
    | inr r ↦ elim r [ inl cut ↦ omega (arith, cut.status_is) | inr short ↦ omega (arith, short.status_is) ]
  ])

  asked_of : (slot : Option Outcome) → IfSome slot (λ o. asks_run (command_of words) ≡ true) → IsTrue (is_some slot) → asks_run (command_of words) ≡ true
  asked_of (Some outcome) only some = only
  asked_of None only some = absurd cc

  not_some : (given : Option Outcome) → given ≡ None → IsTrue (is_some given) → ⊥
  not_some given none some = let lost : false ≡ true = sym (ap is_some none) ∙ some in cc

  pub outcome_exact : (slot given : Option Outcome) (status : ℕ) → (status ≡ 0 → given ≡ slot) → ((¬ (status ≡ 0)) → given ≡ None)
      → IfSome slot (λ o. asks_run (command_of words) ≡ true) → Ends (script_with (kept slot) words) told old new h0 h1 f0 f1 status
      → IsTrue (is_some given) ↔ ((asks_run (command_of words) ≡ true) × (status ≡ 0))
  outcome_exact slot given zero whole none only e =
      (λ some. (asked_of slot only (ap is_some (sym (whole refl)) ∙ some), refl), λ both. ap is_some (whole refl) ∙ kept_of slot both.0 e)
  outcome_exact slot given (suc n) whole none only e =
      (λ some. absurd (not_some given (none (λ is. omega (arith, is))) some), λ both. absurd (omega (arith, both.1)))

  pub kept_exact : (slot given : Option Outcome) (status : ℕ) → (status ≡ 0 → given ≡ slot) → Ends (script_with (kept slot) words) told old new h0 h1 f0 f1 status
      → status ≡ 0 → Ends (script_with (kept given) words) told old new h0 h1 f0 f1 status
  kept_exact slot given status whole e is = subst (λ (s : Option Outcome). Ends (script_with (kept s) words) told old new h0 h1 f0 f1 status) (sym (whole is)) e

-- what is true of the outcome that a run kept is true of the one that is handed back
pub given_so : (P : Outcome → Type 0) (slot given : Option Outcome) (status : ℕ) → (status ≡ 0 → given ≡ slot) → ((¬ (status ≡ 0)) → given ≡ None) → IfSome slot P → IfSome given P
given_so P slot given zero whole none holds = subst (λ (s : Option Outcome). IfSome s P) (sym (whole refl)) holds
given_so P slot given (suc n) whole none holds = subst (λ (s : Option Outcome). IfSome s P) (sym (none (λ is. omega (arith, is)))) tt
