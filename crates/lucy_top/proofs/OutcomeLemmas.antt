-- Legal outcomes have named records, and the outcome that is kept is the one that is told.
use Rattle.std.proofs.Common.{◌≡◌, ◌<◌, ◌+◌, ℕ, zero, suc, ℤ, List, [], ◌∷◌, length, get_or, Option, Some, refl, sym, ap, subst, ◌∙◌, arith}
use Rattle.std.specs.Prelude.{slice_get, option_map}
use Rattle.std.proofs.lemmas.List.{length-map}
use Rattle.std.proofs.lemmas.Option.{same_Some, slice_get-map, slice_get_within}
use Rattle.lucy_plan.specs.Segments.{IsInSegment}
use Rattle.lucy_plan.specs.declared.parts.Call.{Call}
use Rattle.lucy_plan.specs.declared.parts.PlanParts.{PlanParts}
use Rattle.lucy_plan.specs.declared.parts.Segment.{Segment}
use Rattle.lucy_expr.specs.Reachability.{IsReachable}
use Rattle.lucy_expr.specs.Trees.{Tree, Start, Apply, Merge}
use Rattle.lucy_epochs.specs.Records.{Record, first_record}
use Rattle.lucy_names.specs.Plans.{AreNamesOf}
use Rattle.lucy_names.specs.declared.names.Names.{Names}
use Rattle.lucy_replica.specs.Legal.{IsLegal, records_of}
use Rattle.lucy_replica.specs.Replicas.{Replica, Stay, stays}
use Rattle.lucy_core.proofs.Contents.{contains_at}
use Rattle.lucy_core.specs.declared.outcome.Outcome.{Outcome}
use Rattle.lucy_names.specs.Plans.{segment_names}
use Rattle.lucy_plan.specs.Soundness.{IsSound}
use Rattle.lucy_report.specs.OutcomeTexts.{records_in, replicas_in, outcome_text}
use Rattle.lucy_report.specs.WorldTexts.{AreNamed}
use Rattle.lucy_top.specs.Outcomes.{Choice, any, alone, kept, IsAlone, IsMeant, Suits, HasRun}
use Rattle.lucy_top.proofs.LookupLemmas.{at_place}
use Rattle.lucy_top.proofs.NamingLemmas.{segment_within}

-- ---- names
opening_in : (plan : PlanParts) (segment : ℕ) (opening : List ℤ) (tree : Tree) → IsReachable plan segment opening tree → IsInSegment plan segment opening
opening_in plan segment opening Start h = h
opening_in plan segment opening (Apply id call inner) h = opening_in plan segment opening inner h.0
opening_in plan segment opening (Merge left right) h = opening_in plan segment opening left h.0

there_is : {X : Type 0} (xs : List X) (k : ℕ) → k < length xs → (x : X) × (slice_get xs k ≡ Some x)
there_is [] k below = absurd (omega (arith, below))
there_is (x ∷ xs) zero below = (x, refl)
there_is (x ∷ xs) (suc k) below = there_is xs k (omega (arith, below))

module _ (plan : PlanParts) (work : List (List Call)) (replicas : List Replica) (legal : IsLegal plan work replicas) where
  -- all records are of the plan
  of_plan : (k : ℕ) (epoch : Record) → slice_get legal.records k ≡ Some epoch → epoch.plan ≡ plan
  of_plan zero epoch at = ap (λ (r : Record). r.plan) (same_Some epoch (first_record plan) (sym at ∙ legal.first))
  of_plan (suc k) epoch at =
      let within = slice_get_within legal.records (suc k) epoch at in
      let before = there_is legal.records k (omega (arith, within)) in
      let next : suc k ≡ k + 1 = omega arith in
      let opened = legal.opened k before.0 epoch before.1 (ap (slice_get legal.records) (sym next) ∙ at) in
      ap (λ (r : Record). r.plan) opened.1.after_is ∙ of_plan k before.0 before.1

  named_stay : (replica : Replica) (stay : Stay) (k : ℕ) → slice_get replicas 0 ≡ Some replica → slice_get (stays replica) k ≡ Some stay → stay.epoch.segment < length plan.segments
  named_stay replica stay k at is =
      let made = legal.made 0 replica stay at (contains_at (stays replica) k stay is) in
      let inside = opening_in stay.epoch.plan stay.epoch.segment stay.epoch.opening stay.tree made.reachable in
      let listed : slice_get (records_of replica) k ≡ Some stay.epoch = slice_get-map (λ (s : Stay). s.epoch) (stays replica) k ∙ ap (option_map (λ (s : Stay). s.epoch)) is in
      let same : stay.epoch.plan ≡ plan = of_plan k stay.epoch (ap (λ (rs : List Record). slice_get rs k) (sym (legal.same 0 replica at)) ∙ listed) in
      subst (λ (p : PlanParts). stay.epoch.segment < length p.segments) same (segment_within stay.epoch.plan stay.epoch.segment stay.epoch.opening inside)

  named_replica : (replica : Replica) → slice_get replicas 0 ≡ Some replica → (names : Names) → AreNamesOf plan names → AreNamed names.segments (records_of replica)
  named_replica replica at names are = λ k epoch below.
      let many : length (records_of replica) ≡ length (stays replica) = length-map (stays replica) (λ (s : Stay). s.epoch) in
      let found = there_is (stays replica) k (omega (arith, below, many)) in
      let here : slice_get (records_of replica) k ≡ Some (get_or (records_of replica) k epoch) = at_place (records_of replica) k epoch below in
      let listed : slice_get (records_of replica) k ≡ Some found.0.epoch = slice_get-map (λ (s : Stay). s.epoch) (stays replica) k ∙ ap (option_map (λ (s : Stay). s.epoch)) found.1 in
      let same : found.0.epoch ≡ get_or (records_of replica) k epoch = same_Some found.0.epoch (get_or (records_of replica) k epoch) (sym listed ∙ here) in
      let inside = named_stay replica found.0 k at found.1 in
      subst (λ (r : Record). r.segment < length names.segments) same
      (omega (arith, inside, ap (λ (ns : List (List ℕ)). length ns) are.segments, length-map plan.segments (λ (s : Segment). s.name)))

-- the records of a legal outcome are named by the names of its plan
pub legal_named : (plan : PlanParts) (work : List (List Call)) (replicas : List Replica) (names : Names) → IsLegal plan work replicas → AreNamesOf plan names → AreNamed names.segments (records_in replicas)
legal_named plan work [] names legal are = λ k epoch below. absurd (omega (arith, below))
legal_named plan work (replica ∷ replicas) names legal are = named_replica plan work (replica ∷ replicas) legal replica refl names are

-- ---- what is told
meant : (choice : Choice) (slot : Option Outcome) (plan : PlanParts) (work : List (List Call)) (outcome : Outcome) → Suits choice slot → slot ≡ Some outcome → IsAlone plan work outcome → IsMeant choice plan work outcome
meant any slot plan work outcome suits is so = tt
meant alone slot plan work outcome suits is so = so
meant (kept wanted) slot plan work outcome suits is so = suits ∙ is

-- the outcome of one thread alone is told, whichever choice suits it
pub alone_has_run : (choice : Choice) (slot : Option Outcome) (plan : PlanParts) (work : List (List Call)) (outcome : Outcome) (text : List ℕ) → Suits choice slot → slot ≡ Some outcome
    → IsAlone plan work outcome → IsLegal plan work (replicas_in outcome) → IsSound plan → text ≡ outcome_text (segment_names plan) outcome → HasRun choice plan work 0 text
alone_has_run choice slot plan work outcome text suits is so legal sound text_is = record {
  outcome = outcome;
  is_meant = meant choice slot plan work outcome suits is so;
  legal = legal;
  sound = sound;
  status_is = refl;
  text_is = text_is;
}
