-- What a plan is found to be.
use Rattle.std.specs.Prelude.{ℕ, ℤ, ◌+◌, Bool, if◌then◌else◌, List, [], ◌∷◌, ◌++◌, Option, Some, None, slice_get, codes}
use Rattle.lucy_findings.specs.Findings.{is_sound}
use Rattle.lucy_findings.specs.declared.findings.CoverFinding.{CoverFinding}
use Rattle.lucy_findings.specs.declared.findings.CoverFinding.TheVariants.{Holds, Uncovered}
use Rattle.lucy_findings.specs.declared.findings.Findings.{Findings}
use Rattle.lucy_findings.specs.declared.findings.SegmentFinding.{SegmentFinding}
use Rattle.lucy_findings.specs.declared.findings.SegmentFinding.TheVariants.{Idle, Closed, Open}
use Rattle.lucy_plan.specs.declared.parts.PlanParts.{PlanParts}
use Rattle.lucy_plan.specs.declared.parts.Segment.{Segment}
use Rattle.lucy_report.specs.StepTexts.{state_text}
use Rattle.lucy_report.specs.VerdictLines.{start_breaks}

-- whether the start satisfies the invariant
abbrev pub start_line : List ℤ → Bool → List ℕ
start_line start holds = if holds then codes "start holds\n" else start_breaks start

-- two states of a segment whose merge is outside it
unfoldable pub pair_words : List ℤ → List ℤ → List ℕ
pair_words first second = codes " open " ++ state_text first ++ codes " " ++ state_text second

-- what a segment is found to be
abbrev pub segment_words : SegmentFinding → List ℕ
segment_words Idle = codes " idle"
segment_words (Closed proof) = codes " closed"
segment_words (Open first second) = pair_words first second

-- the name of a segment, if there is one
abbrev pub name_of : Option Segment → List ℕ
name_of None = []
name_of (Some segment) = segment.name

-- the line of a segment of this name
unfoldable pub segment_line : List ℕ → SegmentFinding → List ℕ
segment_line name finding = codes "segment " ++ name ++ segment_words finding ++ codes "\n"

-- a line for each segment, from this place on
abbrev pub segment_lines : PlanParts → ℕ → List SegmentFinding → List ℕ
segment_lines plan place [] = []
segment_lines plan place (finding ∷ findings) = segment_line (name_of (slice_get plan.segments place)) finding ++ segment_lines plan (place + 1) findings

-- a state of the invariant that is in no segment
unfoldable pub uncovered : List ℤ → List ℕ
uncovered state = codes "uncovered " ++ state_text state ++ codes "\n"

-- whether the segments cover the invariant
abbrev pub cover_line : CoverFinding → List ℕ
cover_line (Holds proof) = codes "cover holds\n"
cover_line (Uncovered state) = uncovered state

-- whether the plan is sound
abbrev pub sound_line : Bool → List ℕ
sound_line sound = if sound then codes "sound\n" else codes "not sound\n"

-- the start, each segment in order, the cover, and whether the plan is sound
unfoldable pub findings_text : PlanParts → Findings → List ℕ
findings_text plan findings =
    start_line plan.start findings.start_holds ++ segment_lines plan 0 findings.segments ++ cover_line findings.cover ++ sound_line (is_sound findings)
