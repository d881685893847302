-- A plan whose needed formulas have no model is sound.
use Rattle.std.proofs.Common.{◌≡◌, ℕ, zero, suc, ◌+◌, ◌<◌, Bool, true, false, cond, ◌||◌, eqb, List, [], ◌∷◌, ◌++◌, length, Option, Some, None, slice_get, refl, sym, ap, ◌∙◌, arith}
use Rattle.std.specs.Prelude.{is_some}
use Rattle.std.specs.Option.{option_or}
use Rattle.std.proofs.Math.Path.{subst}
use Rattle.std.proofs.lemmas.Bool.Decides.{nat_tests}
use Rattle.lucy_clauses.specs.Formulas.{HasNoModel}
use Rattle.lucy_model.specs.Merging.{merged}
use Rattle.lucy_plan.specs.declared.parts.PlanParts.{PlanParts}
use Rattle.lucy_plan.specs.declared.parts.Segment.{Segment}
use Rattle.lucy_plan.specs.Plans.{IsPlan}
use Rattle.lucy_plan.specs.Segments.{IsWhole, is_whole, is_in_segment, first_segment}
use Rattle.lucy_plan.specs.Soundness.{IsSound, runs_some}
use Rattle.lucy_closure.specs.Meanings.{EscapeIsClosureModel, UncoveredIsCoverModel}
use Rattle.lucy_cert.specs.declared.names.PartName.{PartName}
use Rattle.lucy_cert.specs.declared.names.PartName.TheVariants.{Closure, Cover}
use Rattle.lucy_cert.specs.declared.steps.Proof.{Proof}
use Rattle.lucy_cert.specs.Certificates.{Contents}
use Rattle.lucy_cert.specs.Laws.{RefutesExactly, RefutedHasNoModel}
use Rattle.lucy_cert.specs.Refuting.{fault_of}
use Rattle.lucy_checker.specs.Checkers.{CheckersAreExact}
use Rattle.lucy_judge.specs.declared.refusal.Refusal.{Refusal}
use Rattle.lucy_judge.specs.declared.refusal.Refusal.TheVariants.{StartBreaks}
use Rattle.lucy_judge.specs.declared.trial.Trial.{Trial}
use Rattle.lucy_judge.specs.Judging.{closures_from, needed, formula_of, is_same, proof_of, rejected, part_refusal, first_refusal, start_refusal, refusal_of}
use Rattle.lucy_judge.specs.Keeping.{contains, IsTrial}
use Rattle.lucy_judge.specs.Laws.{AcceptedIsSound, AcceptedExactly, IsRefuted}
use Rattle.lucy_judge.specs.Trials.{refusal_so_far, missing, refusal_at_end}
use Rattle.lucy_judge.proofs.Kept.{first_none, later_none, not_rejected, whole_of, closed_kept}
use Rattle.lucy_judge.proofs.Orders.{same_is, same_self}

-- ---- the needed parts

or_right : (a b : Bool) → b ≡ true → (a || b) ≡ true
or_right true b h = refl
or_right false b h = h

equal_sum : (k m : ℕ) → k + 0 ≡ m → eqb m k ≡ true
equal_sum k m e = grind (arith, nat_tests, e)

names_closure : (k i m : ℕ) (ss : List Segment) → k + i ≡ m → runs_some (slice_get ss i) ≡ true → contains (Closure m) (closures_from k ss ++ Cover ∷ []) ≡ true
names_closure k i m [] e h = absurd (cc)
names_closure k zero m (s ∷ ss) e h =
    ap (λ b. contains (Closure m) (cond b (Closure k ∷ closures_from (k + 1) ss) (closures_from (k + 1) ss) ++ Cover ∷ [])) h
    ∙ ap (λ b. b || contains (Closure m) (closures_from (k + 1) ss ++ Cover ∷ [])) (equal_sum k m e)
names_closure k (suc i) m (s ∷ ss) e h = by_case (runs_some (Some s)) (names_closure (k + 1) i m ss (omega (arith, e)) h)
  where
    by_case : (b : Bool) → contains (Closure m) (closures_from (k + 1) ss ++ Cover ∷ []) ≡ true
        → contains (Closure m) (cond b (Closure k ∷ closures_from (k + 1) ss) (closures_from (k + 1) ss) ++ Cover ∷ []) ≡ true
    by_case true rest = or_right (eqb m k) _ rest
    by_case false rest = rest

names_cover : (k : ℕ) (ss : List Segment) → contains Cover (closures_from k ss ++ Cover ∷ []) ≡ true
names_cover k [] = refl
names_cover k (s ∷ ss) = by_case (runs_some (Some s)) (names_cover (k + 1) ss)
  where
    by_case : (b : Bool) → contains Cover (closures_from (k + 1) ss ++ Cover ∷ []) ≡ true
        → contains Cover (cond b (Closure k ∷ closures_from (k + 1) ss) (closures_from (k + 1) ss) ++ Cover ∷ []) ≡ true
    by_case true rest = rest
    by_case false rest = rest

within : (i : ℕ) (ss : List Segment) → runs_some (slice_get ss i) ≡ true → i < length ss
within i [] h = absurd (cc)
within zero (s ∷ ss) h = omega arith
within (suc i) (s ∷ ss) h = omega (arith, within i ss h)

-- ---- soundness

abbrev AllRefuted : PlanParts → Type 0
AllRefuted plan = (name : PartName) → contains name (needed plan) ≡ true → HasNoModel (formula_of plan name)

by_bool : (b : Bool) → (b ≡ false → ⊥) → b ≡ true
by_bool true h = refl
by_bool false h = absurd (h refl)

pub sound_of : EscapeIsClosureModel → UncoveredIsCoverModel → (plan : PlanParts) → IsPlan plan → IsWhole plan plan.start → AllRefuted plan → IsSound plan
sound_of escapes uncovered plan is start all =
    record {
      start = start;
      covered = λ state whole. by_bool (is_some (first_segment plan state)) (λ none.
          let model = uncovered plan state is whole none in
          all Cover (names_cover 0 plan.segments) model.numbers model.model);
      closed = λ segment runs left right p q. by_bool (is_in_segment plan segment (merged plan.object left right)) (λ out.
          let model = escapes plan segment left right is (within segment plan.segments runs) p q out in
          all (Closure segment) (names_closure 0 segment segment plan.segments (omega arith) runs) model.numbers model.model);
    }

-- ---- a trial of which nothing is refused

none_due : (due : List PartName) → missing due ≡ None → due ≡ []
none_due [] h = refl
none_due (n ∷ ns) h = absurd (cc)

pub trial_sound : RefutesExactly → CheckersAreExact → RefutedHasNoModel → EscapeIsClosureModel → UncoveredIsCoverModel
    → (plan : PlanParts) (t : Trial) → IsPlan plan → IsTrial plan t → refusal_at_end t ≡ None → IsSound plan
trial_sound exactly checkers nothing escapes uncovered plan t is kept h =
    let over = closed_kept exactly checkers nothing plan t kept in
    let none = first_none (refusal_so_far t) (missing t.due) h in
    let empty = none_due t.due (later_none (refusal_so_far t) (missing t.due) h) in
    sound_of escapes uncovered plan is (over.start none) (λ name needs. over.over none name needs (ap (contains name) empty))

-- ---- a certificate of which nothing is refused

refused_by : (exactly : RefutesExactly) (plan : PlanParts) (c : Contents) (name : PartName) (o : Option Proof) → proof_of name c.parts ≡ o → part_refusal plan c.live name o ≡ None → IsRefuted plan c name
refused_by exactly plan c name None e h = absurd (cc)
refused_by exactly plan c name (Some proof) e h =
    record { proof = proof; there = e; refutes = (exactly (formula_of plan name) proof c.live).1 (not_rejected name (fault_of (formula_of plan name) proof c.live) h) }

each_none : (plan : PlanParts) (c : Contents) (ns : List PartName) → first_refusal plan c.live ns c.parts ≡ None → (name : PartName) → contains name ns ≡ true
    → part_refusal plan c.live name (proof_of name c.parts) ≡ None
each_none plan c [] h name is = absurd (cc)
each_none plan c (n ∷ ns) h name is = by_same (is_same name n) refl (each_none plan c ns (later_none (part_refusal plan c.live n (proof_of n c.parts)) (first_refusal plan c.live ns c.parts) h) name)
  where
    by_same : (b : Bool) → is_same name n ≡ b → (contains name ns ≡ true → part_refusal plan c.live name (proof_of name c.parts) ≡ None)
        → part_refusal plan c.live name (proof_of name c.parts) ≡ None
    by_same true e later =
        subst (λ m. part_refusal plan c.live m (proof_of m c.parts) ≡ None) (sym (same_is name n e)) (first_none (part_refusal plan c.live n (proof_of n c.parts)) (first_refusal plan c.live ns c.parts) h)
    by_same false e later = later (sym (ap (λ b. b || contains name ns) e) ∙ is)

refutation : (exactly : RefutesExactly) (plan : PlanParts) (c : Contents) → refusal_of plan c ≡ None → (name : PartName) → contains name (needed plan) ≡ true → IsRefuted plan c name
refutation exactly plan c h name is =
    refused_by exactly plan c name (proof_of name c.parts) refl (each_none plan c (needed plan) (later_none (start_refusal plan) (first_refusal plan c.live (needed plan) c.parts) h) name is)

pub sound : RefutesExactly → RefutedHasNoModel → EscapeIsClosureModel → UncoveredIsCoverModel → AcceptedIsSound
sound exactly nothing escapes uncovered plan c is h =
    sound_of escapes uncovered plan is (whole_of plan (first_none (start_refusal plan) (first_refusal plan c.live (needed plan) c.parts) h))
    (λ name needs. let r = refutation exactly plan c h name needs in nothing (formula_of plan name) r.proof c.live r.refutes)

part_none : (exactly : RefutesExactly) (plan : PlanParts) (c : Contents) (name : PartName) → IsRefuted plan c name → part_refusal plan c.live name (proof_of name c.parts) ≡ None
part_none exactly plan c name r =
    ap (part_refusal plan c.live name) r.there ∙ ap (rejected name) ((exactly (formula_of plan name) r.proof c.live).0 r.refutes)

all_none : (exactly : RefutesExactly) (plan : PlanParts) (c : Contents) (ns : List PartName) → ((name : PartName) → contains name ns ≡ true → IsRefuted plan c name)
    → first_refusal plan c.live ns c.parts ≡ None
all_none exactly plan c [] each = refl
all_none exactly plan c (n ∷ ns) each =
    ap (λ r. option_or r (first_refusal plan c.live ns c.parts)) (part_none exactly plan c n (each n (ap (λ b. b || contains n ns) (same_self n))))
    ∙ all_none exactly plan c ns (λ name is. each name (or_right (is_same name n) (contains name ns) is))

start_none : (b : Bool) → b ≡ true → cond {A = Option Refusal} b None (Some StartBreaks) ≡ None
start_none true h = refl
start_none false h = absurd (cc)

pub exactly_accepted : RefutesExactly → AcceptedExactly
exactly_accepted exactly plan c = (
  λ h. (whole_of plan (first_none (start_refusal plan) (first_refusal plan c.live (needed plan) c.parts) h), refutation exactly plan c h),
  λ both. ap (λ r. option_or r (first_refusal plan c.live (needed plan) c.parts)) (start_none (is_whole plan plan.start) both.0) ∙ all_none exactly plan c (needed plan) both.1,
)
