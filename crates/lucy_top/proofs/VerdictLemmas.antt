-- What the status of a verdict tells, and what good inputs come to.
use Rattle.std.proofs.Common.{◌≡◌, ℕ, Bool, true, false, List, Option, Some, None, Ok, ◌≤◌, ◌^◌, refl, sym, ap, subst, ◌∙◌, inl, inr, length}
use Rattle.std.specs.Prelude.{◌↔◌, IsTrue, if◌then◌else◌, Result, Err, IfOk}
use Rattle.std.specs.declared.alloc.AllocError.{AllocError}
use Rattle.lucy_cert.specs.Certificates.{Contents}
use Rattle.lucy_cert.specs.Certifying.{certificate_of}
use Rattle.lucy_cert.specs.Laws.{WrittenIsReadBack}
use Rattle.lucy_cert.specs.Texts.{certificate_text}
use Rattle.lucy_cert.specs.declared.error.CertError.{CertError}
use Rattle.lucy_findings.specs.Findings.{AreFindings, is_sound}
use Rattle.lucy_findings.specs.Laws.{SoundIsSound}
use Rattle.lucy_findings.specs.declared.findings.Findings.{Findings}
use Rattle.lucy_io.specs.Inputs.{Told}
use Rattle.lucy_io.specs.Outcomes as outcomes
use Rattle.lucy_judge.specs.Judging.{refusal_of}
use Rattle.lucy_judge.specs.declared.refusal.Refusal.{Refusal}
use Rattle.lucy_plan.specs.Plans.{IsPlan}
use Rattle.lucy_plan.specs.Soundness.{IsSound}
use Rattle.lucy_plan.specs.declared.parts.Call.{Call}
use Rattle.lucy_plan.specs.declared.parts.PlanParts.{PlanParts}
use Rattle.lucy_calls.specs.Texts.{work_text, steps_text}
use Rattle.lucy_calls.specs.declared.steps.Step.{Step}
use Rattle.lucy_make.specs.Plans.{made_plan}
use Rattle.lucy_make.specs.Steps.{made_steps}
use Rattle.lucy_make.specs.Work.{made_work}
use Rattle.lucy_names.specs.Plans.{txn_names}
use Rattle.lucy_top.specs.Drills.{drill_work, drill_steps}
use Rattle.lucy_reading.specs.Outcomes.{Outcome, ◌>>=◌, told}
use Rattle.lucy_report.specs.FindingLines.{findings_text}
use Rattle.lucy_top.specs.Causes.{ComesTo}
use Rattle.lucy_top.specs.Commands.{asks_plan, asks_certificate, asks_work, asks_steps, check_script, certify_script, verify_script, replay_script, replay_made_script, help_script, make_plan_script, make_work_script, make_steps_script, drill_script, script_asked, run_script, run_made_script}
use Rattle.lucy_top.specs.Laws.{SaysPlan, SaysRefusal, SaysWork, SaysSteps, GoodInputsComeToTheirVerdict, StatusTellsSoundness, CertifiedIsVerified}
use Rattle.lucy_top.specs.Reading.{certificate_line, certificate_said, judged}
use Rattle.lucy_top.specs.Outcomes.{Choice, alone, HasRun}
use Rattle.lucy_top.specs.Replays.{IsSafeThroughout}
use Rattle.lucy_top.specs.Script.{Script, takes}
use Rattle.lucy_top.specs.declared.said.Said.{Said}
use Rattle.lucy_top.specs.Verdicts.{Verdict, exactly, answered, finds, certifies, verifies, replays, replays_if_sound, drills, AreTold, IsUnsound, IsCertified, Says, runs, runs_if_sound}
use Rattle.lucy_words.specs.Help.{help_text}
use Rattle.lucy_words.specs.declared.asked.Command.{Command}
use Rattle.lucy_words.specs.declared.error.WordsError.{WordsError}

-- ---- findings

exact_by : (plan : PlanParts) (sound : Bool) (status : ℕ) → IsTrue sound ↔ IsSound plan → status ≡ (if sound then 0 else 1) → (status ≡ 0) ↔ IsSound plan
exact_by plan true status law is = (λ zero. law.0 refl, λ sound. is)
exact_by plan false status law is = (λ zero. absurd cc, λ sound. absurd (let lost : false ≡ true = law.1 sound in cc))

-- findings that are told
pub told_so : SoundIsSound → (plan : PlanParts) (findings : Findings) (status : ℕ) (text : List ℕ) → IsPlan plan → AreFindings plan findings
    → text ≡ findings_text plan findings → status ≡ (if is_sound findings then 0 else 1) → AreTold plan status text
told_so law plan findings status text valid are text_is status_is = record {
  findings = findings;
  are = are;
  text_is = text_is;
  status_is = status_is;
  exact = exact_by plan (is_sound findings) status (law plan findings valid are) status_is;
}

-- found sound, so the plan is
pub found_sound : SoundIsSound → (plan : PlanParts) (findings : Findings) → IsPlan plan → AreFindings plan findings → is_sound findings ≡ true → IsSound plan
found_sound law plan findings valid are is = (law plan findings valid are).0 is

one_by : (plan : PlanParts) (sound : Bool) (status : ℕ) → ¬ IsSound plan → (status ≡ 0) ↔ IsSound plan → status ≡ (if sound then 0 else 1) → status ≡ 1
one_by plan true status not exact is = absurd (not (exact.0 is))
one_by plan false status not exact is = is

-- not found sound, so the plan is not
pub found_unsound : SoundIsSound → (plan : PlanParts) (findings : Findings) (status : ℕ) (text : List ℕ) → IsPlan plan → AreFindings plan findings → is_sound findings ≡ false
    → AreTold plan status text → IsUnsound plan status text
found_unsound law plan findings status text valid are is told =
    let unsound : ¬ IsSound plan = λ sound. let lost : is_sound findings ≡ true = (law plan findings valid are).1 sound in cc in
    record { told = told; status_is = one_by plan (is_sound told.findings) status unsound told.exact told.status_is; unsound = unsound }

pub unsound_if : SoundIsSound → (plan : PlanParts) (findings : Findings) (result : Result Said AllocError) → IsPlan plan → AreFindings plan findings → is_sound findings ≡ false
    → IfOk result (λ s. AreTold plan s.status s.text.items) → IfOk result (λ s. IsUnsound plan s.status s.text.items)
unsound_if law plan findings (Ok s) valid are is told = found_unsound law plan findings s.status s.text.items valid are is told
unsound_if law plan findings (Err e) valid are is told = tt

-- ---- statuses

certified_tells : (plan : PlanParts) (status : ℕ) (text : List ℕ) → Says (certifies plan) status text → (status ≡ 0) ↔ IsSound plan
certified_tells plan status text (inl says) = (λ zero. says.sound, λ sound. says.status_is)
certified_tells plan status text (inr says) = (λ zero. absurd (let one = says.status_is in cc), λ sound. absurd (says.unsound sound))

verified_tells : (plan : PlanParts) (refusal : Option Refusal) (status : ℕ) (text : List ℕ) → Says (verifies plan refusal) status text → (status ≡ 0) ↔ (refusal ≡ None)
verified_tells plan None status text says = (λ zero. refl, λ none. says.status_is)
verified_tells plan (Some refusal) status text says = (λ zero. absurd (let one = says.status_is in cc), λ none. absurd cc)

verified_sound : (plan : PlanParts) (refusal : Option Refusal) (text : List ℕ) → Says (verifies plan refusal) 0 text → IsSound plan
verified_sound plan None text says = says.sound
verified_sound plan (Some refusal) text says = absurd (let one = says.status_is in cc)

replayed_tells : (plan : PlanParts) (refusal : Option Refusal) (work : List (List Call)) (steps : List Step) (status : ℕ) (text : List ℕ)
    → Says (replays plan refusal work steps) status text → (status ≡ 0) ↔ (refusal ≡ None)
replayed_tells plan None work steps status text says = (λ zero. refl, λ none. says.status_is)
replayed_tells plan (Some refusal) work steps status text says = (λ zero. absurd (let one = says.status_is in cc), λ none. absurd cc)

made_tells : (plan : PlanParts) (work : List (List Call)) (steps : List Step) (status : ℕ) (text : List ℕ) → Says (replays_if_sound plan work steps) status text → (status ≡ 0) ↔ IsSound plan
made_tells plan work steps status text (inl says) = (λ zero. says.sound, λ sound. says.status_is)
made_tells plan work steps status text (inr says) = (λ zero. absurd (let one = says.status_is in cc), λ sound. absurd (says.unsound sound))

replayed_safe : (plan : PlanParts) (refusal : Option Refusal) (work : List (List Call)) (steps : List Step) (text : List ℕ)
    → Says (replays plan refusal work steps) 0 text → IsSound plan × IsSafeThroughout plan work steps
replayed_safe plan None work steps text says = (says.sound, says.safe)
replayed_safe plan (Some refusal) work steps text says = absurd (let one = says.status_is in cc)

made_safe : (plan : PlanParts) (work : List (List Call)) (steps : List Step) (text : List ℕ) → Says (replays_if_sound plan work steps) 0 text → IsSound plan × IsSafeThroughout plan work steps
made_safe plan work steps text (inl says) = (says.sound, says.safe)
made_safe plan work steps text (inr says) = absurd (let one = says.status_is in cc)

drill_tells : (plan : PlanParts) (seed size status : ℕ) (text : List ℕ) → Says (drills plan seed size) status text → (status ≡ 0) ↔ IsSound plan
drill_tells plan seed size status text (inl says) = (λ zero. says.sound, λ sound. says.status_is)
drill_tells plan seed size status text (inr says) = (λ zero. absurd (let one = says.status_is in cc), λ sound. absurd (says.unsound sound))

drilled_safe : (plan : PlanParts) (seed size : ℕ) (text : List ℕ) → Says (drills plan seed size) 0 text → IsSound plan × IsSafeThroughout plan (drill_work plan seed) (drill_steps seed)
drilled_safe plan seed size text (inl says) = (says.sound, says.safe)
drilled_safe plan seed size text (inr says) = absurd (let one = says.status_is in cc)

run_tells : (choice : Choice) (plan : PlanParts) (refusal : Option Refusal) (work : List (List Call)) (status : ℕ) (text : List ℕ) → Says (runs choice plan refusal work) status text → (status ≡ 0) ↔ (refusal ≡ None)
run_tells choice plan None work status text says = (λ zero. refl, λ none. says.status_is)
run_tells choice plan (Some refusal) work status text says = (λ zero. absurd (let one = says.status_is in cc), λ none. absurd cc)

run_made_tells : (choice : Choice) (plan : PlanParts) (work : List (List Call)) (status : ℕ) (text : List ℕ) → Says (runs_if_sound choice plan work) status text → (status ≡ 0) ↔ IsSound plan
run_made_tells choice plan work status text (inl says) = (λ zero. says.sound, λ sound. says.status_is)
run_made_tells choice plan work status text (inr says) = (λ zero. absurd (let one = says.status_is in cc), λ sound. absurd (says.unsound sound))

run_has : (choice : Choice) (plan : PlanParts) (refusal : Option Refusal) (work : List (List Call)) (text : List ℕ) → Says (runs choice plan refusal work) 0 text → HasRun choice plan work 0 text
run_has choice plan None work text says = says
run_has choice plan (Some refusal) work text says = absurd (let one = says.status_is in cc)

run_made_has : (choice : Choice) (plan : PlanParts) (work : List (List Call)) (text : List ℕ) → Says (runs_if_sound choice plan work) 0 text → HasRun choice plan work 0 text
run_made_has choice plan work text (inl says) = says
run_made_has choice plan work text (inr says) = absurd (let one = says.status_is in cc)

pub status_tells : StatusTellsSoundness
status_tells = record {
  check = λ plan status text says. says.exact;
  certify = certified_tells;
  verify = verified_tells;
  verified = verified_sound;
  replay = replayed_tells;
  replay_made = made_tells;
  replayed = replayed_safe;
  replayed_made = made_safe;
  drill = drill_tells;
  drilled = drilled_safe;
  run = run_tells;
  run_made = run_made_tells;
  has_run = run_has;
  has_run_made = run_made_has;
}

read_accepted : (name text : List ℕ) (plan : PlanParts) (certificate : Contents) → certificate_of text ≡ Ok certificate → refusal_of plan certificate ≡ None → judged name plan text ≡ Ok None
unfolding judged certificate_said
read_accepted name text plan certificate is none =
    ap (λ (o : outcomes.Outcome CertError Contents). told (certificate_line name) o >>= λ (c : Contents). Ok (refusal_of plan c)) is ∙ ap Ok none

certified_by : WrittenIsReadBack → (name text : List ℕ) (plan : PlanParts) → IsCertified plan 0 text → length text ≤ 2 ^ 26 → judged name plan text ≡ Ok None
certified_by back name text plan says few =
    let short : length (certificate_text says.certificate) ≤ 2 ^ 26 = subst (λ (t : List ℕ). length t ≤ 2 ^ 26) says.text_is few in
    read_accepted name text plan says.certificate (ap certificate_of says.text_is ∙ back says.certificate says.writable short) says.is_accepted

pub certified_verified : WrittenIsReadBack → CertifiedIsVerified
certified_verified back name text plan (inl says) few = certified_by back name text plan says few
certified_verified back name text plan (inr says) few = absurd (let one = says.status_is in cc)

-- ---- good inputs

-- a text that was read leads on to what it says
takes_comes : {X : Type 0} (read : Outcome X) (next : X → Script) (t : Told) (v : Verdict) (x : X) → read ≡ Ok x → ComesTo (next x) t v → ComesTo (takes read next) t v
unfolding takes
takes_comes {X} read next t v x is comes = subst (λ (o : Outcome X). ComesTo (takes o next) t v) (sym is) comes

plan_comes : (t : Told) (name : List ℕ) (plan : PlanParts) (next : PlanParts → Script) (v : Verdict) → SaysPlan t name plan → ComesTo (next plan) t v → ComesTo (asks_plan name next) t v
unfolding asks_plan
plan_comes t name plan next v s comes = (s.text, s.is_there.there, s.is_there.few, takes_comes _ next t v plan s.says comes)

certificate_comes : (t : Told) (name : List ℕ) (plan : PlanParts) (refusal : Option Refusal) (next : Option Refusal → Script) (v : Verdict)
    → SaysRefusal t name plan refusal → ComesTo (next refusal) t v → ComesTo (asks_certificate name plan next) t v
unfolding asks_certificate
certificate_comes t name plan refusal next v s comes = (s.text, s.is_there.there, s.is_there.few, takes_comes _ next t v refusal s.says comes)

work_comes : (t : Told) (name : List ℕ) (plan : PlanParts) (work : List (List Call)) (next : List (List Call) → Script) (v : Verdict)
    → SaysWork t name plan work → ComesTo (next work) t v → ComesTo (asks_work name plan next) t v
unfolding asks_work
work_comes t name plan work next v s comes = (s.text, s.is_there.there, s.is_there.few, takes_comes _ next t v work s.says comes)

steps_comes : (t : Told) (name : List ℕ) (replicas : ℕ) (steps : List Step) (next : List Step → Script) (v : Verdict)
    → SaysSteps t name replicas steps → ComesTo (next steps) t v → ComesTo (asks_steps name replicas next) t v
unfolding asks_steps
steps_comes t name replicas steps next v s comes = (s.text, s.is_there.there, s.is_there.few, takes_comes _ next t v steps s.says comes)

by_words : (asked : outcomes.Outcome WordsError Command) (command : Command) (t : Told) (v : Verdict) → asked ≡ Ok command → ComesTo (script_asked (Ok command)) t v → ComesTo (script_asked asked) t v
by_words asked command t v is comes = subst (λ (o : outcomes.Outcome WordsError Command). ComesTo (script_asked o) t v) (sym is) comes

pub come_to_verdict : GoodInputsComeToTheirVerdict
unfolding check_script certify_script verify_script replay_script replay_made_script help_script make_plan_script make_work_script make_steps_script drill_script run_script run_made_script
come_to_verdict = record {
  check = λ words t name plan is p. by_words _ _ t (finds plan) is (plan_comes t name plan _ (finds plan) p refl);
  certify = λ words t name plan is p. by_words _ _ t (certifies plan) is (plan_comes t name plan _ (certifies plan) p refl);
  verify = λ words t name certificate plan refusal is p c. by_words _ _ t (verifies plan refusal) is
      (plan_comes t name plan _ (verifies plan refusal) p (certificate_comes t certificate plan refusal _ (verifies plan refusal) c refl));
  replay = λ words t name certificate work_name steps_name plan refusal work steps is p c w s. by_words _ _ t (replays plan refusal work steps) is
      (plan_comes t name plan _ (replays plan refusal work steps) p (certificate_comes t certificate plan refusal _ (replays plan refusal work steps) c
      (work_comes t work_name plan work _ (replays plan refusal work steps) w (steps_comes t steps_name (length work) steps _ (replays plan refusal work steps) s refl))));
  replay_made = λ words t name work_name steps_name plan work steps is p w s. by_words _ _ t (replays_if_sound plan work steps) is
      (plan_comes t name plan _ (replays_if_sound plan work steps) p
      (work_comes t work_name plan work _ (replays_if_sound plan work steps) w (steps_comes t steps_name (length work) steps _ (replays_if_sound plan work steps) s refl)));
  help = λ words t is. by_words _ _ t (exactly answered help_text) is refl;
  make_plan = λ words t seed size is. by_words _ _ t (exactly answered (made_plan seed size)) is refl;
  make_work = λ words t name seed replicas calls plan is p. by_words _ _ t _ is (plan_comes t name plan _ (exactly answered (work_text (txn_names plan) (made_work plan seed replicas calls))) p refl);
  make_steps = λ words t name work_name seed rounds plan work is p w. by_words _ _ t _ is
      (plan_comes t name plan _ (exactly answered (steps_text (made_steps (length work) seed rounds))) p
      (work_comes t work_name plan work _ (exactly answered (steps_text (made_steps (length work) seed rounds))) w refl));
  drill = λ words t seed size plan is said. by_words _ _ t (drills plan seed size) is (takes_comes _ _ t (drills plan seed size) plan said refl);
  run = λ words t name certificate work_name seed plan refusal work is p c w. by_words _ _ t (runs alone plan refusal work) is
      (plan_comes t name plan _ (runs alone plan refusal work) p (certificate_comes t certificate plan refusal _ (runs alone plan refusal work) c
      (work_comes t work_name plan work _ (runs alone plan refusal work) w refl)));
  run_made = λ words t name work_name seed plan work is p w. by_words _ _ t (runs_if_sound alone plan work) is
      (plan_comes t name plan _ (runs_if_sound alone plan work) p (work_comes t work_name plan work _ (runs_if_sound alone plan work) w refl));
}
