-- What a text is answered, and what its certificate is found to be.
use Rattle.std.proofs.Common.{◌≡◌, ◌≢◌, ℕ, List, Option, Some, None, Ok, Err, refl, sym, ap, subst, ◌∙◌}
use Rattle.std.specs.Prelude.{Result}
use Rattle.std.specs.Option.{option_map}
use Rattle.lucy_io.specs.Outcomes as outcomes
use Rattle.lucy_cert.specs.Certificates.{Contents}
use Rattle.lucy_cert.specs.Certifying.{certificate_of}
use Rattle.lucy_cert.specs.declared.error.CertError.{CertError}
use Rattle.lucy_cert.specs.declared.error.CertError.TheVariants as cert
use Rattle.lucy_judge.specs.Judging.{refusal_of}
use Rattle.lucy_judge.specs.declared.refusal.Refusal as judge
use Rattle.lucy_judge.specs.declared.refusal.Refusal.TheVariants as refusal
use Rattle.lucy_plan.specs.declared.parts.PlanParts.{PlanParts}
use Rattle.lucy_reading.specs.Outcomes.{Outcome, ◌>>=◌, told, Tells, Reads}
use Rattle.lucy_reading.specs.declared.refusal.Refusal.{Refusal}
use Rattle.lucy_reading.specs.declared.refusal.Refusal.TheVariants.{Bad, OutOfMemory}
use Rattle.lucy_stream.specs.Verifying.{of_text, of_refusal, verified, verified_by}
use Rattle.lucy_stream.specs.Verifying as stream
use Rattle.lucy_stream.specs.declared.error.StreamError.{StreamError}
use Rattle.lucy_stream.specs.declared.error.StreamError.TheVariants as cause
use Rattle.lucy_top.specs.Judging.{told_as}
use Rattle.lucy_top.specs.Reading.{certificate_line, certificate_said, judged}

judged_by : List ℕ → PlanParts → outcomes.Outcome CertError Contents → Outcome (Option judge.Refusal)
judged_by name plan read = told (certificate_line name) read >>= λ certificate. Ok (refusal_of plan certificate)

refusal_told : (name : List ℕ) (r : judge.Refusal) → of_refusal r ≢ cause.OutOfMemory → Ok (Some r) ≡ told_as name (of_refusal r)
refusal_told name refusal.StartBreaks is = refl
refusal_told name (refusal.Missing part) is = refl
refusal_told name (refusal.Rejected part step why) is = refl
refusal_told name refusal.OutOfMemory is = absurd (is refl)

text_told : (name : List ℕ) (plan : PlanParts) (e : CertError) → of_text e ≢ cause.OutOfMemory → judged_by name plan (Err e) ≡ told_as name (of_text e)
unfolding judged_by
text_told name plan cert.TooLong is = refl
text_told name plan (cert.BadLine at) is = refl
text_told name plan cert.OutOfMemory is = absurd (is refl)

some_told : (name : List ℕ) (r : Option judge.Refusal) (e : StreamError) → e ≢ cause.OutOfMemory → option_map of_refusal r ≡ Some e → Ok r ≡ told_as name e
some_told name None e is why = absurd cc
some_told name (Some r) e is why =
    let same : of_refusal r ≡ e = cc in
    refusal_told name r (λ out. is (sym same ∙ out)) ∙ ap (told_as name) same

error_by : (name : List ℕ) (plan : PlanParts) (read : outcomes.Outcome CertError Contents) (e : StreamError) → e ≢ cause.OutOfMemory → verified_by plan read ≡ Some e → judged_by name plan read ≡ told_as name e
unfolding judged_by
error_by name plan (Ok certificate) e is why = some_told name (refusal_of plan certificate) e is why
error_by name plan (Err wrong) e is why =
    let same : of_text wrong ≡ e = cc in
    text_told name plan wrong (λ out. is (sym same ∙ out)) ∙ ap (told_as name) same

none_told : (r : Option judge.Refusal) → option_map of_refusal r ≡ None → r ≡ None
none_told None is = refl
none_told (Some r) is = absurd cc

accepted_by : (name : List ℕ) (plan : PlanParts) (read : outcomes.Outcome CertError Contents) → verified_by plan read ≡ None → judged_by name plan read ≡ Ok None
unfolding judged_by
accepted_by name plan (Ok certificate) is = ap Ok (none_told (refusal_of plan certificate) is)
accepted_by name plan (Err wrong) is = absurd cc

-- a text that is answered so is told so
pub error_told : (name : List ℕ) (plan : PlanParts) (text : List ℕ) (e : StreamError) → e ≢ cause.OutOfMemory → verified plan text ≡ Some e → judged name plan text ≡ told_as name e
unfolding judged certificate_said judged_by
error_told name plan text e is why = error_by name plan (certificate_of text) e is why

-- a text that is accepted is not refused
pub accepted_told : (name : List ℕ) (plan : PlanParts) (text : List ℕ) → verified plan text ≡ None → judged name plan text ≡ Ok None
unfolding judged certificate_said judged_by
accepted_told name plan text is = accepted_by name plan (certificate_of text) is

-- a line is told by the refusal that has it
pub refused_reads : {A B : Type 0} (view : B → A) (meant : Outcome A) (line : List ℕ) (r : Refusal) → meant ≡ Err line → Tells line r → Reads view meant (Err r)
refused_reads view meant line (Bad text) is tells = is ∙ ap Err (sym tells)
refused_reads view meant line OutOfMemory is tells = tt

-- what is read with no refusal
pub none_reads : {B : Type 0} (view : B → Option judge.Refusal) (meant : Outcome (Option judge.Refusal)) (r : Result B Refusal) → meant ≡ Ok None → Reads view (Ok None) r → Reads view meant r
none_reads view meant (Ok x) is reads = is ∙ reads
none_reads view meant (Err (Bad text)) is reads = is ∙ reads
none_reads view meant (Err OutOfMemory) is reads = tt

by_error : {B : Type 0} (view : B → Option judge.Refusal) (name : List ℕ) (plan : PlanParts) (text : List ℕ) (answer : Result PlanParts StreamError) (e : StreamError) (r : Result B Refusal)
    → answer ≡ Err e → (e ≢ cause.OutOfMemory → Reads view (told_as name e) r) → stream.Tells plan (verified plan text) answer → e ≢ cause.OutOfMemory → Reads view (judged name plan text) r
by_error view name plan text answer e r is known tells kept =
    let told_so = subst (λ (a : Result PlanParts StreamError). stream.Tells plan (verified plan text) a) is tells in
    subst (λ (m : Outcome (Option judge.Refusal)). Reads view m r) (sym (error_told name plan text e kept (told_so kept))) (known kept)

-- what is told of an error is told of the text that is answered so
pub error_reads : {B : Type 0} (view : B → Option judge.Refusal) (name : List ℕ) (plan : PlanParts) (text : List ℕ) (answer : Result PlanParts StreamError) (e : StreamError) (r : Result B Refusal)
    → answer ≡ Err e → (e ≢ cause.OutOfMemory → Reads view (told_as name e) r) → (e ≡ cause.OutOfMemory → r ≡ Err OutOfMemory)
    → stream.Tells plan (verified plan text) answer → Reads view (judged name plan text) r
error_reads view name plan text answer cause.TooLong r is known wanting tells = by_error view name plan text answer cause.TooLong r is known tells (λ e. cc)
error_reads view name plan text answer (cause.BadLine at) r is known wanting tells = by_error view name plan text answer (cause.BadLine at) r is known tells (λ e. cc)
error_reads view name plan text answer cause.StartBreaks r is known wanting tells = by_error view name plan text answer cause.StartBreaks r is known tells (λ e. cc)
error_reads view name plan text answer (cause.Missing part) r is known wanting tells = by_error view name plan text answer (cause.Missing part) r is known tells (λ e. cc)
error_reads view name plan text answer (cause.Rejected part step why) r is known wanting tells = by_error view name plan text answer (cause.Rejected part step why) r is known tells (λ e. cc)
error_reads {B} view name plan text answer cause.OutOfMemory r is known wanting tells = subst (λ (x : Result B Refusal). Reads view (judged name plan text) x) (sym (wanting refl)) tt

-- a line that is told of an error
pub line_reads : {B : Type 0} (view : B → Option judge.Refusal) (name : List ℕ) (error e : StreamError) (line : List ℕ) (r : Refusal)
    → error ≡ e → told_as name e ≡ Err line → Tells line r → error ≢ cause.OutOfMemory → Reads view (told_as name error) (Err r)
line_reads view name error e line r is told_line tells = λ kept. refused_reads view (told_as name error) line r (ap (told_as name) is ∙ told_line) tells
