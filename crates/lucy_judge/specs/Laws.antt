-- Laws of judging.
use Rattle.std.specs.Prelude.{◌≡◌, ◌↔◌, true, Some, None}
use Rattle.lucy_plan.specs.declared.parts.PlanParts.{PlanParts}
use Rattle.lucy_plan.specs.Plans.{IsPlan}
use Rattle.lucy_plan.specs.Segments.{IsWhole}
use Rattle.lucy_plan.specs.Soundness.{IsSound}
use Rattle.lucy_cert.specs.declared.names.PartName.{PartName}
use Rattle.lucy_cert.specs.declared.steps.Proof.{Proof}
use Rattle.lucy_cert.specs.Certificates.{Contents, part_names}
use Rattle.lucy_cert.specs.Names.{ascend}
use Rattle.lucy_cert.specs.Refuting.{Refutes}
use Rattle.lucy_judge.specs.Judging.{needed, formula_of, proof_of, refusal_of}
use Rattle.lucy_judge.specs.Keeping.{contains}
use Rattle.lucy_judge.specs.Trials.{trial_of, refusal_at_end}

-- a plan with a certificate that is not refused is sound
abbrev pub AcceptedIsSound : Type 0
AcceptedIsSound = (plan : PlanParts) (certificate : Contents) → IsPlan plan → refusal_of plan certificate ≡ None → IsSound plan

-- a part is there and refutes its formula, with the certificate's number of live clauses
pub record IsRefuted (plan : PlanParts) (certificate : Contents) (name : PartName) : Type 0 where
  pub proof : Proof
  pub there : proof_of name certificate.parts ≡ Some proof
  pub refutes : Refutes (formula_of plan name) proof certificate.live

-- a certificate is not refused exactly where the start satisfies the invariant and each needed part is there and refutes its formula
abbrev pub AcceptedExactly : Type 0
AcceptedExactly =
    (plan : PlanParts) (certificate : Contents)
    → (refusal_of plan certificate ≡ None) ↔ (IsWhole plan plan.start × ((name : PartName) → contains name (needed plan) ≡ true → IsRefuted plan certificate name))

-- a certificate that is judged a part and a step at a time is refused as the whole is
abbrev pub JudgedInParts : Type 0
JudgedInParts =
    (plan : PlanParts) (certificate : Contents) → ascend (part_names certificate.parts) ≡ true
    → refusal_at_end (trial_of plan certificate.live certificate.parts) ≡ refusal_of plan certificate
