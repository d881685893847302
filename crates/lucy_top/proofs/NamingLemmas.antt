-- The names of a plan name the segments of all records of its runs.
use Rattle.std.proofs.Common.{◌≡◌, ◌<◌, ℕ, true, false, List, length, Option, Some, None, refl, ap, ◌∙◌, arith}
use Rattle.std.specs.Prelude.{IsTrue, ℤ, slice_get, get_or}
use Rattle.std.proofs.lemmas.List.{length-map}
use Rattle.std.proofs.lemmas.Option.{slice_get_within}
use Rattle.lucy_plan.specs.Segments.{is_in_some, IsInSegment}
use Rattle.lucy_plan.specs.declared.parts.Call.{Call}
use Rattle.lucy_plan.specs.declared.parts.PlanParts.{PlanParts}
use Rattle.lucy_plan.specs.declared.parts.Segment.{Segment}
use Rattle.lucy_names.specs.Plans.{AreNamesOf}
use Rattle.lucy_names.specs.declared.names.Names.{Names}
use Rattle.lucy_calls.specs.declared.steps.Step.{Step}
use Rattle.lucy_epochs.specs.Records.{first_record}
use Rattle.lucy_core.specs.Laws.{RecordsStay}
use Rattle.lucy_core.specs.Safety.{KeepsFacts}
use Rattle.lucy_core.specs.Steps.{world_after}
use Rattle.lucy_core.specs.Worlds.{World, opening_world}
use Rattle.lucy_report.specs.WorldTexts.{AreNamed}
use Rattle.lucy_top.proofs.LookupLemmas.{at_place}

there : (plan : PlanParts) (segment : Option Segment) (numbers : List ℤ) → IsTrue (is_in_some plan segment numbers) → (found : Segment) × (segment ≡ Some found)
there plan None numbers is = absurd (let lost : false ≡ true = is in cc)
there plan (Some found) numbers is = (found, refl)

-- a segment that holds a state is one of the plan's
pub segment_within : (plan : PlanParts) (segment : ℕ) (numbers : List ℤ) → IsInSegment plan segment numbers → segment < length plan.segments
segment_within plan segment numbers is =
    let found = there plan (slice_get plan.segments segment) numbers is in
    slice_get_within plan.segments segment found.0 found.1

pub named_so : RecordsStay → (plan : PlanParts) (work : List (List Call)) (steps : List Step) (w : World) (names : Names)
    → KeepsFacts w → w ≡ world_after (opening_world plan work) steps → AreNamesOf plan names → AreNamed names.segments w.records
named_so stay plan work steps w names facts is are = λ place epoch within.
    let at : slice_get w.records place ≡ Some (get_or w.records place epoch) = at_place w.records place epoch within in
    let first : slice_get w.records 0 ≡ Some (first_record plan) = ap (λ (v : World). slice_get v.records 0) is ∙ stay (opening_world plan work) steps 0 (first_record plan) refl in
    let same = facts.of_one_plan place (first_record plan) (get_or w.records place epoch) first at in
    let fits = facts.openings_fit place (get_or w.records place epoch) at in
    let inside = segment_within (get_or w.records place epoch).plan (get_or w.records place epoch).segment (get_or w.records place epoch).opening fits in
    omega (arith, inside, ap (λ (p : PlanParts). length p.segments) same, ap (λ (ns : List (List ℕ)). length ns) are.segments, length-map plan.segments (λ (s : Segment). s.name))
