-- The causes of the statuses of a call of `label`.
use Rattle.std.proofs.Common.{◌≡◌, ◌⊎◌, ◌≤◌, ℕ, List, [], ◌∷◌, ◌++◌, Option, Some, None, Result, Ok, Err, refl, sym, ap, subst, ◌∙◌, inl, inr, arith}
use Rattle.lucy_io.specs.Faults.{Rose}
use Rattle.lucy_io.specs.Inputs.{Entry, entry, Told}
use Rattle.lucy_io.specs.declared.inputs.Ending.{Ending}
use Rattle.lucy_io.specs.declared.inputs.Ending.TheVariants.{Given, Absent, Failed}
use Rattle.lucy_plan.specs.declared.parts.PlanParts.{PlanParts}
use Rattle.lucy_report.specs.VerdictLines.{start_breaks}
use Rattle.lucy_session.specs.Sessions.{Dialogue, opening}
use Rattle.lucy_top.specs.Causes.{Added, LastIs, AreInOrder, Asks}
use Rattle.lucy_top.specs.Commands.{asks_plan}
use Rattle.lucy_top.specs.Conversing.{Walk, Event, Last, closed, broken, over, long, fault, Way, whole, cut_last, cut, no_memory, GoesBy, Tells}
use Rattle.lucy_top.specs.Ends.{Ends}
use Rattle.lucy_top.specs.Fetching.{PlanIsGiven}
use Rattle.lucy_top.specs.Labelling.{Begins, Labels}
use Rattle.lucy_top.specs.Script.{Script, ends}
use Rattle.lucy_top.specs.Verdicts.{exactly, answered}
use Rattle.lucy_top.proofs.EndLemmas.{same_added, last_is_so, last_is_only, six_so, order_so}
use Rattle.lucy_top.proofs.ScriptLemmas.{plan_asked}

-- the causes of the statuses of a call, and the order of its fetches
pub record HasCauses (names : List (List ℕ)) (old new : List Entry) (sf0 sf1 kf0 kf1 status : ℕ) : Type 0 where
  pub absent : status ≡ 4 → Added old new (LastIs Absent)
  pub absent_only : Added old new (LastIs Absent) → (status ≡ 4) ⊎ (status ≡ 6) ⊎ (status ≡ 7)
  pub failed : status ≡ 5 → Added old new (LastIs Failed) ⊎ Rose sf0 sf1
  pub failed_only : Added old new (LastIs Failed) → (status ≡ 5) ⊎ (status ≡ 6) ⊎ (status ≡ 7)
  pub cut : status ≡ 6 → Rose kf0 kf1
  pub order : Added old new (AreInOrder names)

-- a script, whatever the source does
pub script_causes : (names : List (List ℕ)) (script : Script) (told : Option Told) (old new : List Entry) (h0 h1 : Option (List ℕ)) (sf0 sf1 kf0 kf1 status : ℕ) → Asks names script
    → Ends script told old new h0 h1 kf0 kf1 status → HasCauses names old new sf0 sf1 kf0 kf1 status
script_causes names script told old new h0 h1 sf0 sf1 kf0 kf1 status asked e = record {
  absent = λ is. last_is_so Absent script told old new h0 h1 kf0 kf1 status e is (inl is);
  absent_only = last_is_only Absent script told old new h0 h1 kf0 kf1 status e;
  failed = λ is. inl (last_is_so Failed script told old new h0 h1 kf0 kf1 status e is (inr is));
  failed_only = last_is_only Failed script told old new h0 h1 kf0 kf1 status e;
  cut = six_so script told old new h0 h1 kf0 kf1 status e;
  order = order_so names script told old new h0 h1 kf0 kf1 status asked e;
}

-- the causes of the statuses of a session
record SessionCauses (sf0 sf1 kf0 kf1 status : ℕ) : Type 0 where
  four : status ≡ 4 → ⊥
  five : status ≡ 5 → Rose sf0 sf1
  six : status ≡ 6 → Rose kf0 kf1

no_cause : (sf0 sf1 kf0 kf1 status n : ℕ) → status ≡ n → (n ≡ 0) ⊎ (n ≡ 1) ⊎ (n ≡ 3) ⊎ (n ≡ 7) → SessionCauses sf0 sf1 kf0 kf1 status
no_cause sf0 sf1 kf0 kf1 status n is small = record {
  four = λ four. other 4 four small (omega arith);
  five = λ five. absurd (other 5 five small (omega arith));
  six = λ six. absurd (other 6 six small (omega arith));
}
  where
    other : (m : ℕ) → status ≡ m → (n ≡ 0) ⊎ (n ≡ 1) ⊎ (n ≡ 3) ⊎ (n ≡ 7) → (4 ≤ m) × (m ≤ 6) → ⊥
    other m at (inl zero_is) between = omega (arith, is, at, zero_is, between.0)
    other m at (inr (inl one_is)) between = omega (arith, is, at, one_is, between.0)
    other m at (inr (inr (inl three_is))) between = omega (arith, is, at, three_is, between.0)
    other m at (inr (inr (inr seven_is))) between = omega (arith, is, at, seven_is, between.1)

cut_cause : (sf0 sf1 kf0 kf1 status : ℕ) → status ≡ 6 → Rose kf0 kf1 → SessionCauses sf0 sf1 kf0 kf1 status
cut_cause sf0 sf1 kf0 kf1 status is rose = record { four = λ four. omega (arith, four, is); five = λ five. absurd (omega (arith, five, is)); six = λ six. rose }

goes_causes : (walk : Walk) (d : Dialogue) (events : List Event) (rest : List ℕ) (left h0 h1 : Option (List ℕ)) (sf0 sf1 kf0 kf1 status : ℕ) (way : Way)
    → GoesBy walk d events rest left h0 h1 sf0 sf1 kf0 kf1 status way → SessionCauses sf0 sf1 kf0 kf1 status
goes_causes walk d events rest left h0 h1 sf0 sf1 kf0 kf1 status (whole closed) by = no_cause sf0 sf1 kf0 kf1 status 0 by.1 (inl refl)
goes_causes walk d events rest left h0 h1 sf0 sf1 kf0 kf1 status (whole (broken e f)) by = no_cause sf0 sf1 kf0 kf1 status 1 by.1 (inr (inl refl))
goes_causes walk d events rest left h0 h1 sf0 sf1 kf0 kf1 status (whole over) by = no_cause sf0 sf1 kf0 kf1 status 1 by.1 (inr (inl refl))
goes_causes walk d events rest left h0 h1 sf0 sf1 kf0 kf1 status (whole (long count)) by = no_cause sf0 sf1 kf0 kf1 status 3 by.1 (inr (inr (inl refl)))
goes_causes walk d events rest left h0 h1 sf0 sf1 kf0 kf1 status (whole fault) by = record {
  four = λ four. omega (arith, four, by.1);
  five = λ five. by.0.rose;
  six = λ six. absurd (omega (arith, six, by.1));
}
goes_causes walk d events rest left h0 h1 sf0 sf1 kf0 kf1 status (cut_last last) by = cut_cause sf0 sf1 kf0 kf1 status by.1.status_is by.1.rose
goes_causes walk d events rest left h0 h1 sf0 sf1 kf0 kf1 status (cut earlier event) by = cut_cause sf0 sf1 kf0 kf1 status by.2.status_is by.2.rose
goes_causes walk d events rest left h0 h1 sf0 sf1 kf0 kf1 status no_memory by = no_cause sf0 sf1 kf0 kf1 status 7 by.0 (inr (inr (inr refl)))

tells_causes : (text : List ℕ) (h0 h1 : Option (List ℕ)) (sf0 sf1 kf0 kf1 status : ℕ) → Tells text 1 h0 h1 kf0 kf1 status → SessionCauses sf0 sf1 kf0 kf1 status
tells_causes text h0 h1 sf0 sf1 kf0 kf1 status (inl w) = no_cause sf0 sf1 kf0 kf1 status 1 w.0 (inr (inl refl))
tells_causes text h0 h1 sf0 sf1 kf0 kf1 status (inr (inl c)) = cut_cause sf0 sf1 kf0 kf1 status c.status_is c.rose
tells_causes text h0 h1 sf0 sf1 kf0 kf1 status (inr (inr none)) = no_cause sf0 sf1 kf0 kf1 status 7 none.0 (inr (inr (inr refl)))

begins_causes : (plan : PlanParts) (walk : Walk) (l0 l1 h0 h1 : Option (List ℕ)) (sf0 sf1 kf0 kf1 status : ℕ) → Begins plan walk l0 l1 h0 h1 sf0 sf1 kf0 kf1 status → SessionCauses sf0 sf1 kf0 kf1 status
begins_causes plan walk l0 l1 h0 h1 sf0 sf1 kf0 kf1 status (inl session) = goes_causes walk (opening plan session.names) session.session.events session.session.rest l1 h0 h1 sf0 sf1 kf0 kf1 status session.session.way session.session.by
begins_causes plan walk l0 l1 h0 h1 sf0 sf1 kf0 kf1 status (inr (inl bad)) = tells_causes (start_breaks plan.start) h0 h1 sf0 sf1 kf0 kf1 status bad.tells
begins_causes plan walk l0 l1 h0 h1 sf0 sf1 kf0 kf1 status (inr (inr none)) = no_cause sf0 sf1 kf0 kf1 status 7 none.status_is (inr (inr (inr refl)))

-- an input that was given is neither absent nor failed
given_last : (y : Ending) (told : Option Told) (name : List ℕ) (plan : PlanParts) (old new : List Entry) → PlanIsGiven told name plan old new → Added old new (LastIs y) → Given ≡ y
unfolding entry
given_last y told name plan old new given added = let last = subst (LastIs y) (same_added old added.added (entry name Given ∷ []) (sym added.journal ∙ given.journal)) added.holds in last

-- a command that asks for a plan alone
abbrev bare : PlanParts → Script
bare plan = ends (exactly answered [])

pub labels_causes : (name : List ℕ) (walk : Walk) (told : Option Told) (old new : List Entry) (l0 l1 h0 h1 : Option (List ℕ)) (sf0 sf1 kf0 kf1 status : ℕ)
    → Labels name walk told old new l0 l1 h0 h1 sf0 sf1 kf0 kf1 status → HasCauses (name ∷ []) old new sf0 sf1 kf0 kf1 status
unfolding entry
labels_causes name walk told old new l0 l1 h0 h1 sf0 sf1 kf0 kf1 status (inl none) =
    script_causes (name ∷ []) (asks_plan name bare) told old new h0 h1 sf0 sf1 kf0 kf1 status (plan_asked [] name bare (λ p. tt)) (none.ends bare)
labels_causes name walk told old new l0 l1 h0 h1 sf0 sf1 kf0 kf1 status (inr had) =
    let causes = begins_causes had.plan walk l0 l1 h0 h1 sf0 sf1 kf0 kf1 status had.begins in
    record {
      absent = λ is. absurd (causes.four is);
      absent_only = λ added. absurd (let lost = given_last Absent told name had.plan old new had.given added in cc);
      failed = λ is. inr (causes.five is);
      failed_only = λ added. absurd (let lost = given_last Failed told name had.plan old new had.given added in cc);
      cut = causes.six;
      order = record { added = entry name Given ∷ []; journal = had.given.journal; holds = refl };
    }
