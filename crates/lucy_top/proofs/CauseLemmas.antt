-- The status and the journal, for every script.
use Rattle.std.specs.Prelude.{IsSomeAnd, Bool, true, false, if◌then◌else◌}
use Rattle.std.proofs.Common.{◌≡◌, ◌≢◌, ◌≤◌, ◌<◌, ◌⊎◌, ℕ, List, [], ◌∷◌, length, Option, Some, None, refl, sym, subst, ◌∙◌, inl, inr, arith}
use Rattle.lucy_io.specs.Inputs.{Entry, Told}
use Rattle.lucy_io.specs.declared.inputs.Ending.{Ending}
use Rattle.lucy_io.specs.declared.inputs.Ending.TheVariants.{Given, Absent, Failed}
use Rattle.lucy_top.specs.Causes.{LastIs, AreInOrder, Asks, NoneFailed, ComesTo}
use Rattle.lucy_findings.specs.Findings.{is_sound}
use Rattle.lucy_plan.specs.declared.parts.PlanParts.{PlanParts}
use Rattle.lucy_top.specs.Script.{Script, ends, asks, Gave, IsTooLong, IsAbsent, HasFailed, OnEnding, Ran, RanPart}
use Rattle.lucy_top.specs.Verdicts.{Verdict, exactly, finds, certifies, verifies, replays, replays_if_sound, drills, answered, bad_words, refused, AreTold, Says, runs, runs_if_sound}

-- what is known of a call that asked for an input first
abbrev Asked : Option Told → List ℕ → ℕ → (List ℕ → Script) → Ending → List Entry → ℕ → List ℕ → Type 0
Asked told name most next ending es status text = OnEnding ending
    (((bytes : List ℕ) × Gave told name most bytes × Ran (next bytes) told es status text) ⊎ IsTooLong told name most es status text)
    (IsAbsent told name es status text)
    (HasFailed name es status text)

-- the statuses that the ending of the last entry goes with
abbrev pub GoesWith : Ending → ℕ → Type 0
GoesWith Given status = status ≤ 3
GoesWith Absent status = status ≡ 4
GoesWith Failed status = status ≡ 5

small_if : (b : Bool) (status : ℕ) → status ≡ (if b then 0 else 1) → status ≤ 3
small_if true status is = omega (arith, is)
small_if false status is = omega (arith, is)

told_small : (plan : PlanParts) (status : ℕ) (text : List ℕ) → AreTold plan status text → status ≤ 3
told_small plan status text told = small_if (is_sound told.findings) status told.status_is

says_small : (v : Verdict) (status : ℕ) (text : List ℕ) → Says v status text → status ≤ 3
says_small (exactly answered t) status text says = omega (arith, says.0)
says_small (exactly bad_words t) status text says = omega (arith, says.0)
says_small (exactly refused t) status text says = omega (arith, says.0)
says_small (finds plan) status text says = told_small plan status text says
says_small (certifies plan) status text (inl says) = omega (arith, says.status_is)
says_small (certifies plan) status text (inr says) = omega (arith, says.status_is)
says_small (verifies plan None) status text says = omega (arith, says.status_is)
says_small (verifies plan (Some refusal)) status text says = omega (arith, says.status_is)
says_small (replays plan None work steps) status text says = omega (arith, says.status_is)
says_small (replays plan (Some refusal) work steps) status text says = omega (arith, says.status_is)
says_small (replays_if_sound plan work steps) status text (inl says) = omega (arith, says.status_is)
says_small (replays_if_sound plan work steps) status text (inr says) = omega (arith, says.status_is)
says_small (drills plan seed size) status text (inl says) = omega (arith, says.status_is)
says_small (drills plan seed size) status text (inr says) = omega (arith, says.status_is)
says_small (runs choice plan None work) status text says = omega (arith, says.status_is)
says_small (runs choice plan (Some refusal) work) status text says = omega (arith, says.status_is)
says_small (runs_if_sound choice plan work) status text (inl says) = omega (arith, says.status_is)
says_small (runs_if_sound choice plan work) status text (inr says) = omega (arith, says.status_is)

only_entry : (x : Ending) (e : Entry) (es : List Entry) → es ≡ [] → LastIs x (e ∷ es) → e.ending ≡ x
only_entry x e es none l = let one = subst (λ (r : List Entry). LastIs x (e ∷ r)) none l in one

-- nothing was asked for
pub unasked_small : (script : Script) (told : Option Told) (status : ℕ) (text : List ℕ) → Ran script told [] status text → status ≤ 3
unasked_small (ends v) told status text ran = says_small v status text ran
unasked_small (asks name most next) told status text ran = absurd ran

goes_by : (told : Option Told) (name : List ℕ) (most : ℕ) (next : List ℕ → Script) (ending : Ending) (e : Entry) (es : List Entry) (status : ℕ) (text : List ℕ) (x : Ending)
    → ((bytes : List ℕ) → Ran (next bytes) told es status text → LastIs x es → GoesWith x status)
    → e.ending ≡ ending → Asked told name most next ending es status text → LastIs x (e ∷ es) → GoesWith x status
goes_by told name most next Given e [] status text x ih is (inl ran) l = subst (λ (y : Ending). GoesWith y status) (sym is ∙ l) (unasked_small (next ran.0) told status text ran.2)
goes_by told name most next Given e (f ∷ fs) status text x ih is (inl ran) l = ih ran.0 ran.2 l
goes_by told name most next Given e es status text x ih is (inr long) l =
    let small : status ≤ 3 = omega (arith, long.status_is) in
    subst (λ (y : Ending). GoesWith y status) (sym is ∙ only_entry x e es long.last l) small
goes_by told name most next Absent e es status text x ih is ended l = subst (λ (y : Ending). GoesWith y status) (sym is ∙ only_entry x e es ended.last l) ended.status_is
goes_by told name most next Failed e es status text x ih is ended l = subst (λ (y : Ending). GoesWith y status) (sym is ∙ only_entry x e es ended.last l) ended.status_is

-- the status goes with the ending of the last entry
pub last_goes_with : (script : Script) (told : Option Told) (added : List Entry) (status : ℕ) (text : List ℕ) (x : Ending) → Ran script told added status text → LastIs x added → GoesWith x status
last_goes_with (ends v) told [] status text x ran l = absurd l
last_goes_with (ends v) told (e ∷ es) status text x ran l = absurd ran
last_goes_with (asks name most next) told [] status text x ran l = absurd ran
last_goes_with (asks name most next) told (e ∷ es) status text x ran l =
    goes_by told name most next e.ending e es status text x (λ bytes r l'. last_goes_with (next bytes) told es status text x r l') refl ran.1 l

last_of : Entry → List Entry → Ending
last_of e [] = e.ending
last_of e (f ∷ fs) = last_of f fs

last_is : (e : Entry) (es : List Entry) → LastIs (last_of e es) (e ∷ es)
unfolding last_of
last_is e [] = refl
last_is e (f ∷ fs) = last_is f fs

status_names : (x y : Ending) (status : ℕ) (added : List Entry) → GoesWith x status → GoesWith y status → (status ≡ 4) ⊎ (status ≡ 5) → LastIs x added → LastIs y added
status_names Given Given status added a b late l = l
status_names Given Absent status added a b late l = absurd (omega (arith, a, b))
status_names Given Failed status added a b late l = absurd (omega (arith, a, b))
status_names Absent Given status added a b late l = absurd (omega (arith, a, b))
status_names Absent Absent status added a b late l = l
status_names Absent Failed status added a b late l = absurd (omega (arith, a, b))
status_names Failed Given status added a b late l = absurd (omega (arith, a, b))
status_names Failed Absent status added a b late l = absurd (omega (arith, a, b))
status_names Failed Failed status added a b late l = l

-- a status of 4 or 5 names the ending of the last entry
pub names_last : (script : Script) (told : Option Told) (added : List Entry) (status : ℕ) (text : List ℕ) (y : Ending) → Ran script told added status text → GoesWith y status → (status ≡ 4) ⊎ (status ≡ 5) → LastIs y added
names_last script told [] status text y ran goes (inl is) = absurd (omega (arith, is, unasked_small script told status text ran))
names_last script told [] status text y ran goes (inr is) = absurd (omega (arith, is, unasked_small script told status text ran))
names_last script told (e ∷ es) status text y ran goes late =
    let l = last_is e es in
    status_names (last_of e es) y status (e ∷ es) (last_goes_with script told (e ∷ es) status text (last_of e es) ran l) goes late l

small_by : (x : Ending) (status : ℕ) → GoesWith x status → status ≤ 5
small_by Given status goes = omega (arith, goes)
small_by Absent status goes = omega (arith, goes)
small_by Failed status goes = omega (arith, goes)

-- what a command says is none of 6 and 7
pub ran_small : (script : Script) (told : Option Told) (added : List Entry) (status : ℕ) (text : List ℕ) → Ran script told added status text → status ≤ 5
ran_small script told [] status text ran = omega (arith, unasked_small script told status text ran)
ran_small script told (e ∷ es) status text ran = small_by (last_of e es) status (last_goes_with script told (e ∷ es) status text (last_of e es) ran (last_is e es))

order_by : (told : Option Told) (name : List ℕ) (most : ℕ) (next : List ℕ → Script) (ending : Ending) (e : Entry) (es : List Entry) (status : ℕ) (text : List ℕ) (n : List ℕ) (names : List (List ℕ))
    → ((bytes : List ℕ) → Ran (next bytes) told es status text → AreInOrder names es)
    → e.ending ≡ ending → e.name ≡ n → Asked told name most next ending es status text → AreInOrder (n ∷ names) (e ∷ es)
order_by told name most next ending e [] status text n names ih is named asked = named
order_by told name most next Given e (f ∷ fs) status text n names ih is named (inl ran) = (named, is, ih ran.0 ran.2)
order_by told name most next Given e (f ∷ fs) status text n names ih is named (inr long) = let last = long.last in absurd cc
order_by told name most next Absent e (f ∷ fs) status text n names ih is named ended = let last = ended.last in absurd cc
order_by told name most next Failed e (f ∷ fs) status text n names ih is named ended = let last = ended.last in absurd cc

-- the entries of a whole call
pub ran_in_order : (names : List (List ℕ)) (script : Script) (told : Option Told) (added : List Entry) (status : ℕ) (text : List ℕ) → Asks names script → Ran script told added status text → AreInOrder names added
ran_in_order names (ends v) told [] status text which ran = tt
ran_in_order names (ends v) told (e ∷ es) status text which ran = absurd ran
ran_in_order names (asks name most next) told [] status text which ran = absurd ran
ran_in_order [] (asks name most next) told (e ∷ es) status text which ran = absurd which
ran_in_order (n ∷ names) (asks name most next) told (e ∷ es) status text which ran =
    order_by told name most next e.ending e es status text n names (λ bytes r. ran_in_order names (next bytes) told es status text (which.1 bytes) r) refl (ran.0 ∙ which.0) ran.1

-- the entries of a call that stopped for want of memory
pub part_in_order : (names : List (List ℕ)) (script : Script) (told : Option Told) (added : List Entry) → Asks names script → RanPart script told added → AreInOrder names added
part_in_order names script told [] which ran = tt
part_in_order names (ends v) told (e ∷ es) which ran = absurd ran
part_in_order [] (asks name most next) told (e ∷ es) which ran = absurd which
part_in_order (n ∷ names) (asks name most next) told (e ∷ []) which ran = ran.0 ∙ which.0
part_in_order (n ∷ names) (asks name most next) told (e ∷ f ∷ fs) which (named, inl none) = absurd cc
part_in_order (n ∷ names) (asks name most next) told (e ∷ f ∷ fs) which (named, inr more) =
    (named ∙ which.0, more.0, part_in_order names (next more.1.0) told (f ∷ fs) (which.1 more.1.0) more.1.2)

-- what an input that is there and within its limit leads to
comes_by : (t : Told) (name : List ℕ) (most : ℕ) (next : List ℕ → Script) (ending : Ending) (es : List Entry) (status : ℕ) (text bytes : List ℕ) (v : Verdict)
    → (Ran (next bytes) (Some t) es status text → Says v status text) → ending ≢ Failed → t name ≡ Some bytes → length bytes ≤ most → Asked (Some t) name most next ending es status text → Says v status text
comes_by t name most next Given es status text bytes v ih kept there few (inl ran) =
    let same : ran.0 ≡ bytes = cc in
    ih (subst (λ (b : List ℕ). Ran (next b) (Some t) es status text) same ran.2)
comes_by t name most next Given es status text bytes v ih kept there few (inr long) =
    let more : most < length bytes = subst (λ (o : Option (List ℕ)). IsSomeAnd o (λ (b : List ℕ). most < length b)) there long.told_so in
    absurd (omega (arith, more, few))
comes_by t name most next Absent es status text bytes v ih kept there few absent = absurd cc
comes_by t name most next Failed es status text bytes v ih kept there few failed = absurd (kept refl)

-- where no fetch failed, a whole call says what its script comes to
pub comes_so : (script : Script) (t : Told) (v : Verdict) (added : List Entry) (status : ℕ) (text : List ℕ) → ComesTo script t v → NoneFailed added → Ran script (Some t) added status text → Says v status text
comes_so (ends u) t v [] status text is kept ran = subst (λ (w : Verdict). Says w status text) is ran
comes_so (ends u) t v (e ∷ es) status text is kept ran = absurd ran
comes_so (asks name most next) t v [] status text comes kept ran = absurd ran
comes_so (asks name most next) t v (e ∷ es) status text (bytes, there, few, later) kept ran =
    comes_by t name most next e.ending es status text bytes v (λ r. comes_so (next bytes) t v es status text later kept.1 r) kept.0 there few ran.1
