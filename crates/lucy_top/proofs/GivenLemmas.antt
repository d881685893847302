-- What is known of an input that was given, from what any command makes of it.
use Rattle.std.proofs.Common.{◌≡◌, ◌⊎◌, ℕ, ◌^◌, List, [], ◌∷◌, ◌++◌, Option, Some, None, Result, Ok, Err, refl, sym, ap, subst, ◌∙◌, inl, inr, arith}
use Rattle.std.specs.Prelude.{IfOk}
use Rattle.std.specs.Global.{Vec}
use Rattle.std.proofs.lemmas.List.{append-nil}
use Rattle.lucy_io.specs.Inputs.{Entry, entry, Told}
use Rattle.lucy_io.specs.declared.inputs.Ending.{Ending}
use Rattle.lucy_io.specs.declared.inputs.Ending.TheVariants.{Given, Absent, Failed}
use Rattle.lucy_plan.specs.declared.parts.PlanParts.{PlanParts}
use Rattle.lucy_reading.specs.Outcomes.{Outcome, Reads}
use Rattle.lucy_reading.specs.declared.refusal.Refusal.{Refusal}
use Rattle.lucy_reading.specs.declared.refusal.Refusal.TheVariants.{Bad, OutOfMemory}
use Rattle.lucy_top.specs.Ends.{Follows}
use Rattle.lucy_top.specs.Fetching.{Fetches, PlanIsGiven}
use Rattle.lucy_top.specs.Reading.{plan_said}
use Rattle.lucy_top.specs.Script.{Script, ends, asks, Gave, IsTooLong, IsAbsent, HasFailed, OnEnding, Ran}
use Rattle.lucy_top.specs.Verdicts.{exactly, answered}
use Rattle.lucy_top.specs.declared.said.Said.{Said}
use Rattle.lucy_top.specs.declared.said.Stop.{Stop}

pub reads_ok : {X Y : Type 0} (view : X → Y) (meant : Outcome Y) (read : Result X Refusal) → Reads view meant read → IfOk read (λ x. meant ≡ Ok (view x))
reads_ok view meant (Ok x) is = is
reads_ok view meant (Err (Bad line)) is = tt
reads_ok view meant (Err OutOfMemory) is = tt

-- a command that answers the bytes which were given
abbrev echo : List ℕ → Script
echo bytes = ends (exactly answered bytes)

echoed : (told : Option Told) (bytes given : List ℕ) (es : List Entry) → Ran (echo given) told es 0 bytes → (es ≡ []) × (given ≡ bytes)
echoed told bytes given [] ran = (refl, sym ran.1)
echoed told bytes given (e ∷ es) ran = absurd ran

by_ending : (told : Option Told) (name : List ℕ) (most : ℕ) (bytes : List ℕ) (ending : Ending) (es : List Entry)
    → OnEnding ending (((given : List ℕ) × Gave told name most given × Ran (echo given) told es 0 bytes) ⊎ IsTooLong told name most es 0 bytes) (IsAbsent told name es 0 bytes) (HasFailed name es 0 bytes)
    → (ending ≡ Given) × (es ≡ []) × Gave told name most bytes
by_ending told name most bytes Given es (inl ran) = let e = echoed told bytes ran.0 es ran.2 in (refl, e.0, subst (Gave told name most) e.1 ran.1)
by_ending told name most bytes Given es (inr long) = absurd (omega (arith, long.status_is))
by_ending told name most bytes Absent es ended = absurd (omega (arith, ended.status_is))
by_ending told name most bytes Failed es ended = absurd (omega (arith, ended.status_is))

entry_is : (e : Entry) (name : List ℕ) → e.name ≡ name → e.ending ≡ Given → e ≡ entry name Given
unfolding entry
entry_is e name named given = ap (λ (n : List ℕ). entry n e.ending) named ∙ ap (λ (x : Ending). entry name x) given

ran_given : (told : Option Told) (name : List ℕ) (most : ℕ) (bytes : List ℕ) (added : List Entry) → Ran (asks name most echo) told added 0 bytes → (added ≡ entry name Given ∷ []) × Gave told name most bytes
ran_given told name most bytes [] ran = absurd ran
ran_given told name most bytes (e ∷ es) ran =
    let g = by_ending told name most bytes e.ending es ran.1 in
    (ap (λ (x : Entry). x ∷ es) (entry_is e name ran.0 g.0) ∙ ap (λ (r : List Entry). entry name Given ∷ r) g.1, g.2)

-- bytes that any command goes on with were given
fetched_given : (told : Option Told) (name : List ℕ) (most : ℕ) (old new : List Entry) (bytes : Vec ℕ) → Fetches name most told old new (Ok bytes) → (new ≡ old ++ entry name Given ∷ []) × Gave told name most bytes.items
fetched_given told name most old new bytes fetched =
    let said : Said = record { status = 0; text = bytes } in
    let f = fetched echo new (Ok said) (record { added = []; journal = sym (append-nil new); answer = (refl, refl) }) in
    let g = ran_given told name most bytes.items f.added f.answer in
    (f.journal ∙ ap (λ (added : List Entry). old ++ added) g.0, g.1)

pub plan_given : (told : Option Told) (name : List ℕ) (old new : List Entry) (bytes : Vec ℕ) (plan : PlanParts) → Fetches name (2 ^ 20) told old new (Ok bytes) → plan_said name bytes.items ≡ Ok plan
    → PlanIsGiven told name plan old new
plan_given told name old new bytes plan fetched said =
    let g = fetched_given told name (2 ^ 20) old new bytes fetched in record { journal = g.0; bytes = bytes.items; gave = g.1; says = said }
