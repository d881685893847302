-- Which proofs a plan needs, and why a certificate is refused.
use Rattle.std.specs.Prelude.{◌≡◌, ◌≢◌, ℕ, ◌+◌, ◌==◌, Bool, true, false, List, [], ◌∷◌, ◌++◌, Option, Some, None, Result, Ok, Err, if◌then◌else◌}
use Rattle.std.specs.Option.{option_or}
use Rattle.lucy_clauses.specs.declared.formulas.Formula.{Formula}
use Rattle.lucy_plan.specs.declared.parts.Segment.{Segment}
use Rattle.lucy_plan.specs.declared.parts.PlanParts.{PlanParts}
use Rattle.lucy_plan.specs.Segments.{is_whole}
use Rattle.lucy_plan.specs.Soundness.{runs_some}
use Rattle.lucy_closure.specs.Formulas.{closure_formula, cover_formula}
use Rattle.lucy_cert.specs.declared.names.PartName.{PartName}
use Rattle.lucy_cert.specs.declared.names.PartName.TheVariants.{Closure, Cover}
use Rattle.lucy_cert.specs.declared.steps.Proof.{Proof}
use Rattle.lucy_cert.specs.declared.steps.Why.{Why}
use Rattle.lucy_cert.specs.Certificates.{Contents, Part}
use Rattle.lucy_cert.specs.Refuting.{fault_of}
use Rattle.lucy_judge.specs.declared.refusal.Refusal.{Refusal}
use Rattle.lucy_judge.specs.declared.refusal.Refusal.TheVariants.{StartBreaks, Missing, Rejected, OutOfMemory}

-- ---- what a plan needs

-- the closure of each segment with a transaction, ascending, where the first segment has the number k
abbrev pub closures_from : ℕ → List Segment → List PartName
closures_from k [] = []
closures_from k (s ∷ ss) = if runs_some (Some s) then (Closure k ∷ closures_from (k + 1) ss) else closures_from (k + 1) ss

-- the parts that a plan needs: the closure of each segment with a transaction, then the cover
abbrev pub needed : PlanParts → List PartName
needed plan = closures_from 0 plan.segments ++ Cover ∷ []

-- the formula that a part is to refute
abbrev pub formula_of : PlanParts → PartName → Formula
formula_of plan (Closure k) = closure_formula plan k
formula_of plan Cover = cover_formula plan

-- ---- why a certificate is refused

abbrev pub is_same : PartName → PartName → Bool
is_same (Closure k) (Closure l) = k == l
is_same (Closure k) Cover = false
is_same Cover (Closure l) = false
is_same Cover Cover = true

-- the proof of a name
abbrev pub proof_of : PartName → List Part → Option Proof
proof_of name [] = None
proof_of name (p ∷ ps) = if is_same name p.0 then Some p.1 else proof_of name ps

-- a part whose proof has this first fault, or none
abbrev pub rejected : PartName → Option (ℕ × Why) → Option Refusal
rejected name None = None
rejected name (Some fault) = Some (Rejected name fault.0 fault.1)

-- why a needed part is refused, with at most so many live clauses
abbrev pub part_refusal : PlanParts → Option ℕ → PartName → Option Proof → Option Refusal
part_refusal plan live name None = Some (Missing name)
part_refusal plan live name (Some proof) = rejected name (fault_of (formula_of plan name) proof live)

-- the first of some needed parts, in order, that is missing or rejected
abbrev pub first_refusal : PlanParts → Option ℕ → List PartName → List Part → Option Refusal
first_refusal plan live [] parts = None
first_refusal plan live (n ∷ ns) parts = option_or (part_refusal plan live n (proof_of n parts)) (first_refusal plan live ns parts)

-- the start breaks the invariant
abbrev pub start_refusal : PlanParts → Option Refusal
start_refusal plan = if is_whole plan plan.start then None else Some StartBreaks

-- why a certificate is refused for a plan: the start breaks the invariant, or a needed part is missing or rejected. Other parts are not read.
abbrev pub refusal_of : PlanParts → Contents → Option Refusal
refusal_of plan certificate = option_or (start_refusal plan) (first_refusal plan certificate.live (needed plan) certificate.parts)

-- ---- what is answered

-- the plan where nothing is refused, else the refusal
abbrev pub answer_of : PlanParts → Option Refusal → Result PlanParts Refusal
answer_of plan None = Ok plan
answer_of plan (Some e) = Err e

-- the same, where memory may run out as well
abbrev pub Judges : PlanParts → Option Refusal → Result PlanParts Refusal → Type 0
Judges plan refusal (Ok checked) = (checked ≡ plan) × (refusal ≡ None)
Judges plan refusal (Err e) = e ≢ OutOfMemory → refusal ≡ Some e
