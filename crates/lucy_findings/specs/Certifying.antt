-- The certificate of a plan that is found sound.
use Rattle.std.specs.Prelude.{ℕ, ◌+◌, max, List, [], ◌∷◌, ◌++◌, Some}
use Rattle.lucy_cert.specs.declared.names.PartName.TheVariants.{Closure, Cover}
use Rattle.lucy_cert.specs.Certificates.{Part, Contents, contents}
use Rattle.lucy_plan.specs.declared.parts.PlanParts.{PlanParts}
use Rattle.lucy_closure.specs.Formulas.{closure_formula, cover_formula}
use Rattle.lucy_trim.specs.Trimming.{trimmed, live_of}
use Rattle.lucy_findings.specs.declared.findings.SegmentFinding.{SegmentFinding}
use Rattle.lucy_findings.specs.declared.findings.SegmentFinding.TheVariants as segment
use Rattle.lucy_findings.specs.declared.findings.CoverFinding.{CoverFinding}
use Rattle.lucy_findings.specs.declared.findings.CoverFinding.TheVariants as cover
use Rattle.lucy_findings.specs.declared.findings.Findings.{Findings}

-- the trimmed proof of the segment of a number, where it is closed
abbrev pub closure_part : PlanParts → ℕ → SegmentFinding → List Part
closure_part plan k segment.Idle = []
closure_part plan k (segment.Closed proof) = (Closure k, trimmed (closure_formula plan k) proof) ∷ []
closure_part plan k (segment.Open first second) = []

-- those of the segments from a number on, in order
abbrev pub closure_parts : PlanParts → ℕ → List SegmentFinding → List Part
closure_parts plan k [] = []
closure_parts plan k (f ∷ fs) = closure_part plan k f ++ closure_parts plan (k + 1) fs

-- the trimmed proof of the cover, where it holds
abbrev pub cover_part : PlanParts → CoverFinding → List Part
cover_part plan (cover.Holds proof) = (Cover, trimmed (cover_formula plan) proof) ∷ []
cover_part plan (cover.Uncovered state) = []

-- the closures, then the cover
abbrev pub parts_of : PlanParts → Findings → List Part
parts_of plan findings = closure_parts plan 0 findings.segments ++ cover_part plan findings.cover

-- the greatest number of live clauses of the parts
abbrev pub most_of : List Part → ℕ
most_of [] = 0
most_of (p ∷ ps) = max (live_of p.1) (most_of ps)

-- the parts, and the greatest of their numbers of live clauses
abbrev pub certificate_of : PlanParts → Findings → Contents
certificate_of plan findings = contents (parts_of plan findings) (Some (most_of (parts_of plan findings)))
