-- A session keeps its plan, and what its end tells of the plan.
use Rattle.std.proofs.Common.{◌≡◌, ◌⊎◌, ℕ, ◌≤◌, Bool, true, false, List, [], ◌∷◌, ◌++◌, length, Option, Some, None, Ok, Err, refl, sym, ap, subst, ◌∙◌, inl, inr, arith}
use Rattle.std.specs.Prelude.{ℤ, is_some, if◌then◌else◌, nat_lt}
use Rattle.std.specs.Io.KnownBytes.{Appends}
use Rattle.std.specs.Ordering.{int_eq}
use Rattle.std.specs.Cmp.Lexicographic.{pointwise}
use Rattle.lucy_expr.specs.Trees.{Tree}
use Rattle.lucy_expr.specs.Expressions.{Expression}
use Rattle.lucy_io.specs.Inputs.{Entry, Told}
use Rattle.lucy_io.specs.Outcomes.{Outcome, ◌>>=◌}
use Rattle.lucy_io.specs.declared.inputs.Ending.{Ending}
use Rattle.lucy_io.specs.declared.inputs.Ending.TheVariants.{Given, Absent, Failed}
use Rattle.lucy_names.specs.Plans.{AreNamesOf, txn_names}
use Rattle.lucy_names.specs.declared.names.Names.{Names}
use Rattle.lucy_plan.specs.declared.parts.PlanParts.{PlanParts}
use Rattle.lucy_reading.specs.Outcomes.{Outcome as Read}
use Rattle.lucy_report.specs.LabelTexts.{confluent, not_confluent, undecided}
use Rattle.lucy_report.specs.VerdictLines.{start_breaks}
use Rattle.lucy_session.specs.Evaluation.{evaluated}
use Rattle.lucy_session.specs.Labels.{Label, Claim, Unreach, Reach, label_of}
use Rattle.lucy_session.specs.Laws.{IsConfluent, IsConfluentWithout, BrokenIsNotConfluent}
use Rattle.lucy_session.specs.Sessions.{Dialogue, opening, expr_of, labelled, labelled_by, claimed, given, state_on, most_points, roomy, Means}
use Rattle.lucy_session.specs.declared.answers.LabelError.{LabelError}
use Rattle.lucy_session.specs.declared.answers.LabelError.TheVariants.{AlreadyReachable, TooMany, OtherState}
use Rattle.lucy_session.specs.declared.answers.Next.TheVariants as next
use Rattle.lucy_session.specs.declared.reached.Reached.{Reached}
use Rattle.lucy_session.specs.declared.reached.Pair.{Pair}
use Rattle.lucy_top.specs.Commands.{asks_plan}
use Rattle.lucy_top.specs.Conversing.{Walk, Event, shown, heard, with_pair, walked, or_same, after, after_all, text_of, Last, closed, broken, over, long, fault, Way, whole, cut_last, cut, no_memory, GoesBy, Converses, Tells}
use Rattle.lucy_top.specs.Ends.{Ends}
use Rattle.lucy_top.specs.Labelling.{HasSession, HasBadStart, Begins, Labels}
use Rattle.lucy_top.specs.Laws.{SaysConfluent, SaysNotConfluent, SaysUndecided, OfPlan, StatusTellsConfluence}
use Rattle.lucy_top.specs.Reading.{plan_said}
use Rattle.lucy_top.specs.Script.{Script, ends, asks, takes, Gave, IsTooLong, IsAbsent, HasFailed, OnEnding, Ran}
use Rattle.lucy_top.specs.Verdicts.{exactly, refused, Says}

-- ---- the plan is kept

abbrev Keeps : Dialogue → Dialogue → Type 0
Keeps d e = (e.plan ≡ d.plan) × (e.names ≡ d.names)

excluded_keeps : (d e : Dialogue) (state : List ℤ) (b : Bool) → (if b then Ok (record d { points = d.points ++ state ∷ []; pair = None }) else Err TooMany) ≡ Ok e → Keeps d e
excluded_keeps d e state true is = let e-is : record d { points = d.points ++ state ∷ []; pair = None } ≡ e = cc in subst (Keeps d) e-is (refl, refl)
excluded_keeps d e state false is = absurd cc

given_keeps : (d e : Dialogue) (entries : List Reached) (b : Bool) → (if b then Ok (record d { reached = entries }) else Err OtherState) ≡ Ok e → Keeps d e
given_keeps d e entries true is = let e-is : record d { reached = entries } ≡ e = cc in subst (Keeps d) e-is (refl, refl)
given_keeps d e entries false is = absurd cc

reach_keeps : (d e : Dialogue) (state : List ℤ) (tree : Tree) (o : Outcome LabelError (List ℤ × ℕ)) → (o >>= λ found. given d state tree found.0) ≡ Ok e → Keeps d e
reach_keeps d e state tree (Ok found) is = given_keeps d e _ (pointwise int_eq found.0 state) is
reach_keeps d e state tree (Err x) is = absurd cc

claimed_keeps : (d e : Dialogue) (state : List ℤ) (claim : Claim) → claimed d state claim ≡ Ok e → Keeps d e
claimed_keeps d e state Unreach is = excluded_keeps d e state (nat_lt (length d.points) most_points) is
claimed_keeps d e state (Reach tree) is = reach_keeps d e state tree (evaluated d.plan tree 0) is

asked_keeps : (d e : Dialogue) (state : List ℤ) (claim : Claim) (b : Bool) → (if b then Err AlreadyReachable else claimed d state claim) ≡ Ok e → Keeps d e
asked_keeps d e state claim true is = absurd cc
asked_keeps d e state claim false is = claimed_keeps d e state claim is

label_keeps : (d e : Dialogue) (pair : Option Pair) (o : Outcome LabelError Label) → (o >>= labelled_by d pair) ≡ Ok e → Keeps d e
label_keeps d e pair (Err x) is = absurd cc
label_keeps d e None (Ok label) is = let e-is : d ≡ e = cc in subst (Keeps d) e-is (refl, refl)
label_keeps d e (Some p) (Ok label) is = asked_keeps d e (state_on label.side p) label.claim (is_some (expr_of d.reached (state_on label.side p))) is

labelled_keeps : (d e : Dialogue) (line : List ℕ) → labelled d line ≡ Ok e → Keeps d e
unfolding labelled
labelled_keeps d e line is = label_keeps d e d.pair (label_of d.plan line) is

same_keeps : (d : Dialogue) (o : Outcome LabelError Dialogue) → ((e : Dialogue) → o ≡ Ok e → Keeps d e) → Keeps d (or_same d o)
same_keeps d (Ok e) keeps = keeps e refl
same_keeps d (Err x) keeps = (refl, refl)

walk_keeps : (walk : Walk) (d : Dialogue) (p : Pair) → Keeps d (walked walk (with_pair d p) p)
unfolding with_pair
walk_keeps None d p = (refl, refl)
walk_keeps (Some w) d p = (refl, refl)

after_keeps : (walk : Walk) (d : Dialogue) (event : Event) → Keeps d (after walk d event)
after_keeps walk d (shown p) = walk_keeps walk d p
after_keeps walk d (heard line last) = same_keeps d (labelled d line) (λ e is. labelled_keeps d e line is)

all_keep : (walk : Walk) (d : Dialogue) (events : List Event) → Keeps d (after_all walk d events)
all_keep walk d [] = (refl, refl)
all_keep walk d (event ∷ events) =
    let first = after_keeps walk d event in
    let rest = all_keep walk (after walk d event) events in (rest.0 ∙ first.0, rest.1 ∙ first.1)

-- ---- without a plan

-- whatever the inputs are, the status is neither 0 nor 1
abbrev IsLate : Script → Type 0
IsLate (ends v) = (status : ℕ) (text : List ℕ) → Says v status text → 2 ≤ status
IsLate (asks name most next) = (bytes : List ℕ) → IsLate (next bytes)

late_by : (told : Option Told) (name : List ℕ) (most : ℕ) (next : List ℕ → Script) (ending : Ending) (es : List Entry) (status : ℕ) (text : List ℕ)
    → ((bytes : List ℕ) → Ran (next bytes) told es status text → 2 ≤ status)
    → OnEnding ending (((bytes : List ℕ) × Gave told name most bytes × Ran (next bytes) told es status text) ⊎ IsTooLong told name most es status text) (IsAbsent told name es status text) (HasFailed name es status text)
    → 2 ≤ status
late_by told name most next Given es status text late (inl ran) = late ran.0 ran.2
late_by told name most next Given es status text late (inr passed) = omega (arith, passed.status_is)
late_by told name most next Absent es status text late ended = omega (arith, ended.status_is)
late_by told name most next Failed es status text late ended = omega (arith, ended.status_is)

ran_late : (script : Script) (told : Option Told) (added : List Entry) (status : ℕ) (text : List ℕ) → IsLate script → Ran script told added status text → 2 ≤ status
ran_late (ends v) told [] status text late ran = late status text ran
ran_late (ends v) told (e ∷ es) status text late ran = absurd ran
ran_late (asks name most next) told [] status text late ran = absurd ran
ran_late (asks name most next) told (e ∷ es) status text late ran = late_by told name most next e.ending es status text (λ bytes r. ran_late (next bytes) told es status text (late bytes) r) ran.1

-- a command that goes no further than its plan
abbrev stopped : PlanParts → Script
stopped plan = ends (exactly refused [])

taken_late : (read : Read PlanParts) → IsLate (takes read stopped)
unfolding takes
taken_late (Ok plan) = λ status text says. omega (arith, says.0)
taken_late (Err line) = λ status text says. omega (arith, says.0)

plan_late : (name : List ℕ) → IsLate (asks_plan name stopped)
unfolding asks_plan
plan_late name = λ text. taken_late (plan_said name text)

ends_late : (script : Script) (told : Option Told) (old new : List Entry) (h0 h1 : Option (List ℕ)) (kf0 kf1 status : ℕ) → IsLate script → Ends script told old new h0 h1 kf0 kf1 status → 2 ≤ status
ends_late script told old new h0 h1 kf0 kf1 status late e = elim e.way [
  | inl w ↦ ran_late script told e.added status w.text late w.ran
  | inr r ↦ elim r [ inl c ↦ omega (arith, c.status_is) | inr none ↦ omega (arith, none.status_is) ]
]

-- ---- what the end tells

zero_by : (walk : Walk) (d : Dialogue) (events : List Event) (rest : List ℕ) (left h0 h1 : Option (List ℕ)) (sf0 sf1 kf0 kf1 : ℕ) (way : Way)
    → GoesBy walk d events rest left h0 h1 sf0 sf1 kf0 kf1 0 way → SaysConfluent d.plan h0 h1
zero_by walk d events rest left h0 h1 sf0 sf1 kf0 kf1 (whole closed) by =
    let last = after_all walk d events in
    let means : IsConfluentWithout d.plan last.points = subst (λ (p : PlanParts). IsConfluentWithout p last.points) (all_keep walk d events).0 by.0.means in
    record {
      points = last.points;
      before = text_of walk d events;
      written = by.2;
      means = means;
      without_points = λ none. (subst (λ (ps : List (List ℤ)). IsConfluentWithout d.plan ps) none means) (λ tree reached. refl);
    }
zero_by walk d events rest left h0 h1 sf0 sf1 kf0 kf1 (whole (broken e f)) by = absurd (omega (arith, by.1))
zero_by walk d events rest left h0 h1 sf0 sf1 kf0 kf1 (whole over) by = absurd (omega (arith, by.1))
zero_by walk d events rest left h0 h1 sf0 sf1 kf0 kf1 (whole (long count)) by = absurd (omega (arith, by.1))
zero_by walk d events rest left h0 h1 sf0 sf1 kf0 kf1 (whole fault) by = absurd (omega (arith, by.1))
zero_by walk d events rest left h0 h1 sf0 sf1 kf0 kf1 (cut_last last) by = absurd (omega (arith, by.1.status_is))
zero_by walk d events rest left h0 h1 sf0 sf1 kf0 kf1 (cut earlier event) by = absurd (omega (arith, by.2.status_is))
zero_by walk d events rest left h0 h1 sf0 sf1 kf0 kf1 no_memory by = absurd (omega (arith, by.0))

abbrev Ones : PlanParts → Option (List ℕ) → Option (List ℕ) → Type 0
Ones plan h0 h1 = SaysNotConfluent plan h0 h1 ⊎ SaysUndecided h0 h1 ⊎ Appends h0 h1 (start_breaks plan.start)

one_by : BrokenIsNotConfluent → (walk : Walk) (d : Dialogue) (events : List Event) (rest : List ℕ) (left h0 h1 : Option (List ℕ)) (sf0 sf1 kf0 kf1 : ℕ) (way : Way)
    → AreNamesOf d.plan d.names → GoesBy walk d events rest left h0 h1 sf0 sf1 kf0 kf1 1 way → Ones d.plan h0 h1
one_by law walk d events rest left h0 h1 sf0 sf1 kf0 kf1 (whole closed) are by = absurd (omega (arith, by.1))
one_by law walk d events rest left h0 h1 sf0 sf1 kf0 kf1 (whole (broken e f)) are by =
    let last = after_all walk d events in
    let kept = all_keep walk d events in
    let shows : Means d.plan [] (next.Broken (roomy e.tree) (roomy f.tree)) = subst (λ (p : PlanParts). Means p [] (next.Broken (roomy e.tree) (roomy f.tree))) kept.0 by.0.means in
    let names : last.names.txns ≡ txn_names d.plan = ap (λ (n : Names). n.txns) kept.1 ∙ are.txns in
    inl (record {
      left = e.tree;
      right = f.tree;
      before = text_of walk d events;
      written = subst (λ (ns : List (List ℕ)). Appends h0 h1 (text_of walk d events ++ not_confluent ns e.tree f.tree)) names by.2;
      shows = shows;
      means = law d.plan e.tree f.tree shows.0 shows.1 shows.2;
    })
one_by law walk d events rest left h0 h1 sf0 sf1 kf0 kf1 (whole over) are by = inr (inl (record { before = text_of walk d events; written = by.2 }))
one_by law walk d events rest left h0 h1 sf0 sf1 kf0 kf1 (whole (long count)) are by = absurd (omega (arith, by.1))
one_by law walk d events rest left h0 h1 sf0 sf1 kf0 kf1 (whole fault) are by = absurd (omega (arith, by.1))
one_by law walk d events rest left h0 h1 sf0 sf1 kf0 kf1 (cut_last last) are by = absurd (omega (arith, by.1.status_is))
one_by law walk d events rest left h0 h1 sf0 sf1 kf0 kf1 (cut earlier event) are by = absurd (omega (arith, by.2.status_is))
one_by law walk d events rest left h0 h1 sf0 sf1 kf0 kf1 no_memory are by = absurd (omega (arith, by.0))

zero_begins : (plan : PlanParts) (walk : Walk) (l0 l1 h0 h1 : Option (List ℕ)) (sf0 sf1 kf0 kf1 : ℕ) → Begins plan walk l0 l1 h0 h1 sf0 sf1 kf0 kf1 0 → SaysConfluent plan h0 h1
zero_begins plan walk l0 l1 h0 h1 sf0 sf1 kf0 kf1 (inl had) =
    zero_by walk (opening plan had.names) had.session.events had.session.rest l1 h0 h1 sf0 sf1 kf0 kf1 had.session.way had.session.by
zero_begins plan walk l0 l1 h0 h1 sf0 sf1 kf0 kf1 (inr (inl bad)) = absurd (elim bad.tells [
  | inl w ↦ omega (arith, w.0)
  | inr r ↦ elim r [ inl c ↦ omega (arith, c.status_is) | inr none ↦ omega (arith, none.0) ]
])
zero_begins plan walk l0 l1 h0 h1 sf0 sf1 kf0 kf1 (inr (inr none)) = absurd (omega (arith, none.status_is))

one_begins : BrokenIsNotConfluent → (plan : PlanParts) (walk : Walk) (l0 l1 h0 h1 : Option (List ℕ)) (sf0 sf1 kf0 kf1 : ℕ) → Begins plan walk l0 l1 h0 h1 sf0 sf1 kf0 kf1 1 → Ones plan h0 h1
one_begins law plan walk l0 l1 h0 h1 sf0 sf1 kf0 kf1 (inl had) =
    one_by law walk (opening plan had.names) had.session.events had.session.rest l1 h0 h1 sf0 sf1 kf0 kf1 had.session.way had.are had.session.by
one_begins law plan walk l0 l1 h0 h1 sf0 sf1 kf0 kf1 (inr (inl bad)) = elim bad.tells [
  | inl w ↦ inr (inr w.1)
  | inr r ↦ absurd (elim r [ inl c ↦ omega (arith, c.status_is) | inr none ↦ omega (arith, none.0) ])
]
one_begins law plan walk l0 l1 h0 h1 sf0 sf1 kf0 kf1 (inr (inr none)) = absurd (omega (arith, none.status_is))

zero_tells : (name : List ℕ) (walk : Walk) (told : Option Told) (old new : List Entry) (l0 l1 h0 h1 : Option (List ℕ)) (sf0 sf1 kf0 kf1 : ℕ)
    → Labels name walk told old new l0 l1 h0 h1 sf0 sf1 kf0 kf1 0 → OfPlan told name old new (λ plan. SaysConfluent plan h0 h1)
zero_tells name walk told old new l0 l1 h0 h1 sf0 sf1 kf0 kf1 (inl none) = absurd (omega (arith, ends_late (asks_plan name stopped) told old new h0 h1 kf0 kf1 0 (plan_late name) (none.ends stopped)))
zero_tells name walk told old new l0 l1 h0 h1 sf0 sf1 kf0 kf1 (inr had) = record { plan = had.plan; given = had.given; is_so = zero_begins had.plan walk l0 l1 h0 h1 sf0 sf1 kf0 kf1 had.begins }

one_tells : BrokenIsNotConfluent → (name : List ℕ) (walk : Walk) (told : Option Told) (old new : List Entry) (l0 l1 h0 h1 : Option (List ℕ)) (sf0 sf1 kf0 kf1 : ℕ)
    → Labels name walk told old new l0 l1 h0 h1 sf0 sf1 kf0 kf1 1 → OfPlan told name old new (λ plan. Ones plan h0 h1)
one_tells law name walk told old new l0 l1 h0 h1 sf0 sf1 kf0 kf1 (inl none) = absurd (omega (arith, ends_late (asks_plan name stopped) told old new h0 h1 kf0 kf1 1 (plan_late name) (none.ends stopped)))
one_tells law name walk told old new l0 l1 h0 h1 sf0 sf1 kf0 kf1 (inr had) = record { plan = had.plan; given = had.given; is_so = one_begins law had.plan walk l0 l1 h0 h1 sf0 sf1 kf0 kf1 had.begins }

pub tells_confluence : BrokenIsNotConfluent → StatusTellsConfluence
tells_confluence law = record { zero = zero_tells; one = one_tells law }
