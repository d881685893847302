-- What findings say of a plan.
use Rattle.std.specs.Prelude.{◌≡◌, ℕ, IsTrue, ◌↔◌, Some, None, true, slice_get}
use Rattle.lucy_plan.specs.declared.parts.PlanParts.{PlanParts}
use Rattle.lucy_plan.specs.Plans.{IsPlan}
use Rattle.lucy_plan.specs.Segments.{is_in_segment}
use Rattle.lucy_plan.specs.Soundness.{has_txns, IsMergeClosed, IsCovered, IsSound}
use Rattle.lucy_judge.specs.Judging.{refusal_of}
use Rattle.lucy_findings.specs.declared.findings.SegmentFinding.{SegmentFinding}
use Rattle.lucy_findings.specs.declared.findings.Findings.{Findings}
use Rattle.lucy_findings.specs.Findings.{AreFindings, is_closed, is_covered, is_sound}
use Rattle.lucy_findings.specs.Certifying.{certificate_of}

-- a segment with a transaction is found closed exactly where it is merge closed
abbrev pub ClosedIsMergeClosed : Type 0
ClosedIsMergeClosed =
    (plan : PlanParts) (findings : Findings) (k : ℕ) (f : SegmentFinding) → IsPlan plan → AreFindings plan findings → slice_get findings.segments k ≡ Some f
    → IsTrue (has_txns plan k) → IsTrue (is_closed f) ↔ IsMergeClosed plan.object (is_in_segment plan k)

-- the cover is found to hold exactly where the segments cover the invariant
abbrev pub HoldsIsCovered : Type 0
HoldsIsCovered = (plan : PlanParts) (findings : Findings) → IsPlan plan → AreFindings plan findings → IsTrue (is_covered findings.cover) ↔ IsCovered plan

-- a plan is found sound exactly where it is sound
abbrev pub SoundIsSound : Type 0
SoundIsSound = (plan : PlanParts) (findings : Findings) → IsPlan plan → AreFindings plan findings → IsTrue (is_sound findings) ↔ IsSound plan

-- the certificate of a plan that is found sound is accepted
abbrev pub FoundSoundIsAccepted : Type 0
FoundSoundIsAccepted = (plan : PlanParts) (findings : Findings) → AreFindings plan findings → is_sound findings ≡ true → refusal_of plan (certificate_of plan findings) ≡ None
