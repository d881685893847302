-- What a trial keeps.
use Rattle.std.proofs.Common.{◌≡◌, ℕ, Bool, true, false, cond, ◌||◌, List, [], ◌∷◌, ◌++◌, length, Option, Some, None, Result, Ok, Err, IfOk, refl, sym, ap, ◌∙◌}
use Rattle.std.specs.Option.{option_or}
use Rattle.std.specs.declared.alloc.AllocError.{AllocError}
use Rattle.std.proofs.Math.Path.{subst}
use Rattle.std.proofs.lemmas.Bool.{and_parts}
use Rattle.std.proofs.lemmas.List.Sums.{fold-append}
use Rattle.lucy_clauses.specs.Formulas.{HasNoModel}
use Rattle.lucy_plan.specs.declared.parts.PlanParts.{PlanParts}
use Rattle.lucy_plan.specs.Segments.{IsWhole, is_whole}
use Rattle.lucy_cert.specs.declared.names.PartName.{PartName}
use Rattle.lucy_cert.specs.declared.steps.ProofStep.{ProofStep}
use Rattle.lucy_cert.specs.declared.steps.Why.{Why}
use Rattle.lucy_cert.specs.Names.{is_before}
use Rattle.lucy_cert.specs.Laws.{RefutesExactly, RefutedHasNoModel}
use Rattle.lucy_checker.specs.Checkers.{CheckersAreExact, checker_of, checked, checker_fault}
use Rattle.lucy_judge.specs.declared.refusal.Refusal.{Refusal}
use Rattle.lucy_judge.specs.declared.refusal.Refusal.TheVariants.{StartBreaks, Missing}
use Rattle.lucy_judge.specs.declared.trial.Present.{Present}
use Rattle.lucy_judge.specs.declared.trial.Trial.{Trial}
use Rattle.lucy_judge.specs.Judging.{needed, formula_of, is_same, rejected, start_refusal}
use Rattle.lucy_judge.specs.Keeping.{contains, name_fits, names_fit, IsPresent, IsPresentOr, waiting, IsTrial}
use Rattle.lucy_judge.specs.Trials.{trial, opening, refusal_so_far, present_refusal, present, passed, begun, part_taken, end_refusal, present_step, step_taken}
use Rattle.lucy_judge.proofs.Orders.{same_is, needed_fit}

-- ---- nothing is refused

pub first_none : (r s : Option Refusal) → option_or r s ≡ None → r ≡ None
first_none None s h = refl
first_none (Some x) s h = absurd (cc)

pub later_none : (r s : Option Refusal) → option_or r s ≡ None → s ≡ None
later_none None s h = h
later_none (Some x) s h = absurd (cc)

pub not_rejected : (name : PartName) (f : Option (ℕ × Why)) → rejected name f ≡ None → f ≡ None
not_rejected name None h = refl
not_rejected name (Some x) h = absurd (cc)

start_whole : (b : Bool) → cond {A = Option Refusal} b None (Some StartBreaks) ≡ None → b ≡ true
start_whole true h = refl
start_whole false h = absurd (cc)

pub whole_of : (plan : PlanParts) → start_refusal plan ≡ None → IsWhole plan plan.start
whole_of plan h = start_whole (is_whole plan plan.start) h

-- ---- before the first part

both_ways : (b : Bool) → b ≡ true → b ≡ false → ⊥
both_ways true p q = absurd (cc)
both_ways false p q = absurd (cc)

pub opening_kept : (plan : PlanParts) → IsTrial plan (opening plan)
opening_kept plan =
    record {
      due = needed_fit plan;
      present = tt;
      start = λ h. whole_of plan h;
      over = λ h name is other. absurd (both_ways (contains name (needed plan)) is other);
    }

-- ---- a step

step_present : (plan : PlanParts) (o : Option Present) (s : ProofStep) → IsPresentOr plan o → IsPresentOr plan (present_step o s)
step_present plan None s h = tt
step_present plan (Some p) s h =
    record {
      live = h.live;
      steps = h.steps ++ s ∷ [];
      is = ap (λ c. checked c s) h.is ∙ sym (fold-append checked (checker_of (formula_of plan p.name) h.live) h.steps (s ∷ []));
    }

step_waiting : (o : Option Present) (s : ProofStep) (due : List PartName) → waiting (present_step o s) due ≡ waiting o due
step_waiting None s due = refl
step_waiting (Some p) s due = refl

pub step_kept : (plan : PlanParts) (t : Trial) (s : ProofStep) → IsTrial plan t → IsTrial plan (step_taken t s)
step_kept plan t s kept =
    record {
      due = kept.due;
      present = step_present plan t.present s kept.present;
      start = kept.start;
      over = λ h name is other. kept.over h name is (ap (contains name) (sym (step_waiting t.present s t.due)) ∙ other);
    }

-- ---- a part is over

-- a proof whose steps were given, and that has no fault, refutes its formula
pub refuted : RefutesExactly → CheckersAreExact → RefutedHasNoModel → (plan : PlanParts) (p : Present) → IsPresent plan p → end_refusal p ≡ None → HasNoModel (formula_of plan p.name)
refuted exactly checkers nothing plan p is h a model =
    let none = sym (checkers (formula_of plan p.name) is.live is.steps) ∙ ap checker_fault (sym is.is) ∙ not_rejected p.name (checker_fault p.checker) h in
    nothing (formula_of plan p.name) (record { steps = is.steps }) is.live ((exactly (formula_of plan p.name) (record { steps = is.steps }) is.live).1 none) a model

or_false : (a b : Bool) → a ≡ false → b ≡ false → (a || b) ≡ false
or_false a b p q = rw (p, q) refl

module _ (exactly : RefutesExactly) (checkers : CheckersAreExact) (nothing : RefutedHasNoModel) (plan : PlanParts) where
  over_by : (o : Option Present) (due : List PartName) (name : PartName) → IsPresentOr plan o → present_refusal o ≡ None
      → (contains name (waiting o due) ≡ false → HasNoModel (formula_of plan name)) → contains name due ≡ false → HasNoModel (formula_of plan name)
  over_by None due name is h others other = others other
  over_by (Some p) due name is h others other = by_same (is_same name p.name) refl
    where
      by_same : (b : Bool) → is_same name p.name ≡ b → HasNoModel (formula_of plan name)
      by_same true e = subst (λ n. HasNoModel (formula_of plan n)) (sym (same_is name p.name e)) (refuted exactly checkers nothing plan p is h)
      by_same false e = others (or_false (is_same name p.name) (contains name due) e other)

  pub closed_kept : (t : Trial) → IsTrial plan t → IsTrial plan (trial t.due None (refusal_so_far t))
  closed_kept t kept =
      record {
        due = kept.due;
        present = tt;
        start = λ h. kept.start (first_none t.refusal (present_refusal t.present) h);
        over = λ h name is other. over_by t.present t.due name kept.present (later_none t.refusal (present_refusal t.present) h)
            (λ not. kept.over (first_none t.refusal (present_refusal t.present) h) name is not) other;
      }

  refused : (r : Option Refusal) (x : Refusal) → option_or r (Some x) ≡ None → ⊥
  refused None x h = absurd (cc)
  refused (Some y) x h = absurd (cc)

  pub passed_kept : (name : PartName) (due : List PartName) (r : Option Refusal) → IsTrial plan (trial due None r)
      → IsTrial plan (let left = passed name r due in trial left.1 None left.0)
  passed_kept name [] r kept = kept
  passed_kept name (n ∷ ns) r kept = by_before (is_before n name) (passed_kept name ns (option_or r (Some (Missing n)))
      (record {
        due = (and_parts (name_fits (length plan.segments) n) (names_fit plan ns) kept.due).1;
        present = tt;
        start = λ h. absurd (refused r (Missing n) h);
        over = λ h name is other. absurd (refused r (Missing n) h);
      }))
    where
      by_before : (b : Bool) → IsTrial plan (let left = passed name (option_or r (Some (Missing n))) ns in trial left.1 None left.0)
          → IsTrial plan (let left = cond b (passed name (option_or r (Some (Missing n))) ns) (r, n ∷ ns) in trial left.1 None left.0)
      by_before true later = later
      by_before false later = kept

  begun_kept : (live : Option ℕ) (name : PartName) (r : Option Refusal) (due : List PartName) → IsTrial plan (trial due None r) → IsTrial plan (begun plan live name r due)
  begun_kept live name r [] kept = kept
  begun_kept live name r (n ∷ ns) kept = by_same (is_same n name)
    where
      by_same : (b : Bool) → IsTrial plan (cond b (trial ns (Some (present plan live n)) r) (trial (n ∷ ns) None r))
      by_same true =
          record {
            due = (and_parts (name_fits (length plan.segments) n) (names_fit plan ns) kept.due).1;
            present = record { live = live; steps = []; is = refl };
            start = kept.start;
            over = kept.over;
          }
      by_same false = kept

  -- the parts that are due behind those that are missing
  pub left_kept : (name : PartName) (t : Trial) → IsTrial plan t → IsTrial plan (let left = passed name (refusal_so_far t) t.due in trial left.1 None left.0)
  left_kept name t kept = passed_kept name t.due (refusal_so_far t) (closed_kept t kept)

  pub part_kept : (live : Option ℕ) (t : Trial) (name : PartName) → IsTrial plan t → IsTrial plan (part_taken plan live t name)
  part_kept live t name kept =
      begun_kept live name (passed name (refusal_so_far t) t.due).0 (passed name (refusal_so_far t) t.due).1 (left_kept name t kept)

  -- ---- the same, of what calls answer

  left_is_kept : (name : PartName) (t : Trial) (left : Option Refusal × List PartName) → left ≡ passed name (refusal_so_far t) t.due → IsTrial plan t → IsTrial plan (trial left.1 None left.0)
  left_is_kept name t left is kept = subst (λ (l : Option Refusal × List PartName). IsTrial plan (trial l.1 None l.0)) (sym is) (left_kept name t kept)

  pub left_fits : (name : PartName) (t : Trial) (left : Option Refusal × List PartName) → left ≡ passed name (refusal_so_far t) t.due → IsTrial plan t → names_fit plan left.1 ≡ true
  left_fits name t left is kept = (left_is_kept name t left is kept).due

  pub begun_is_kept : (live : Option ℕ) (name : PartName) (t : Trial) (left : Option Refusal × List PartName) → left ≡ passed name (refusal_so_far t) t.due → IsTrial plan t
      → (result : Result Trial AllocError) → IfOk result (λ next. next ≡ begun plan live name left.0 left.1) → IfOk result (λ next. IsTrial plan next)
  begun_is_kept live name t left is kept (Ok next) h = subst (IsTrial plan) (sym h) (begun_kept live name left.0 left.1 (left_is_kept name t left is kept))
  begun_is_kept live name t left is kept (Err e) h = tt
