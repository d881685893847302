-- What a run on threads keeps, and tells.
use Rattle.std.proofs.Common.{◌≡◌, ℕ, zero, suc, List, Option, Some, None, refl, sym, subst, ◌∙◌, arith}
use Rattle.std.specs.Prelude.{IfSome}
use Rattle.lucy_audit.specs.Differences.{Left, Holds, Tells}
use Rattle.lucy_audit.specs.declared.differences.Audit.{Audit}
use Rattle.lucy_audit.specs.declared.differences.Audit.TheVariants.{Apart}
use Rattle.lucy_audit.specs.declared.differences.Difference.{Difference}
use Rattle.lucy_audit.specs.declared.differences.Difference.TheVariants as difference
use Rattle.lucy_core.specs.declared.outcome.Outcome.{Outcome}
use Rattle.lucy_names.specs.Plans.{segment_names}
use Rattle.lucy_plan.specs.Soundness.{IsSound}
use Rattle.lucy_plan.specs.declared.parts.Call.{Call}
use Rattle.lucy_plan.specs.declared.parts.PlanParts.{PlanParts}
use Rattle.lucy_replica.specs.Legal.{IsLegal}
use Rattle.lucy_report.specs.OutcomeTexts.{replicas_in, outcome_text}
use Rattle.lucy_top.specs.Outcomes.{Choice, any, alone, kept, IsMeant, HasRun}
use Rattle.lucy_top.specs.Threads.{Differs, IsApart, SuitsThreads}

meant : (choice : Choice) (slot : Option Outcome) (plan : PlanParts) (work : List (List Call)) (outcome : Outcome) → SuitsThreads choice slot → slot ≡ Some outcome → IsMeant choice plan work outcome
meant any slot plan work outcome suits is = tt
meant alone slot plan work outcome suits is = absurd suits
meant (kept wanted) slot plan work outcome suits is = suits ∙ is

-- the outcome that is kept is told, whichever choice suits it
pub kept_has_run : (choice : Choice) (slot : Option Outcome) (plan : PlanParts) (work : List (List Call)) (outcome : Outcome) (text : List ℕ) → SuitsThreads choice slot → slot ≡ Some outcome
    → IsLegal plan work (replicas_in outcome) → IsSound plan → text ≡ outcome_text (segment_names plan) outcome → HasRun choice plan work 0 text
kept_has_run choice slot plan work outcome text suits is legal sound text_is = record {
  outcome = outcome;
  is_meant = meant choice slot plan work outcome suits is;
  legal = legal;
  sound = sound;
  status_is = refl;
  text_is = text_is;
}

-- a difference goes with the outcome, and neither with another status than 0
pub apart_exact : (slot given : Option Outcome) (held told : Option Difference) (status : ℕ) → IsApart slot held
    → (status ≡ 0 → (given ≡ slot) × (told ≡ held)) → ((¬ (status ≡ 0)) → (given ≡ None) × (told ≡ None)) → IsApart given told
apart_exact slot given held told zero apart whole none =
    subst (λ (o : Option Outcome). IsApart o told) (sym (whole refl).0) (subst (λ (d : Option Difference). IsApart slot d) (sym (whole refl).1) apart)
apart_exact slot given held told (suc n) apart whole none =
    subst (λ (o : Option Outcome). IsApart o told) (sym (none (λ is. omega (arith, is))).0) (none (λ is. omega (arith, is))).1

-- what is told of an audit that does not agree holds, so that its two values differ
holds_differs : (left : Left) (d : Difference) → Holds left d → Differs d
holds_differs left (difference.Seats place held) holds = holds.differ
holds_differs left (difference.Calls replica ours theirs) holds = holds.differ
holds_differs left (difference.Records ours theirs) holds = holds.differ
holds_differs left (difference.Opening after result) holds = (holds.before, holds.differ)
holds_differs left (difference.Named after reply) holds = holds.differ
holds_differs left (difference.Counts replica held accepted) holds = holds.over
holds_differs left (difference.Lengths replica ours theirs) holds = holds.differ

pub apart_differs : (left : Left) (told : Audit) (d : Difference) → Tells left told → told ≡ Apart d → Differs d
apart_differs left told d tells is =
    let both : Tells left (Apart d) = subst (λ (a : Audit). Tells left a) is tells in
    holds_differs left d both.0

-- nothing is kept
pub none_only : (P : Outcome → Type 0) (slot : Option Outcome) → slot ≡ None → IfSome slot P
none_only P None none = tt
none_only P (Some outcome) none = absurd cc

pub none_apart : (slot : Option Outcome) (held : Option Difference) → slot ≡ None → held ≡ None → IsApart slot held
none_apart None held none empty = empty
none_apart (Some outcome) held none empty = absurd cc
