use Rattle.std.proofs.Common.{◌≡◌, ◌+◌, ◌≤◌, ◌<◌, ◌^◌, ℕ, List, ap, length, arith}
use Rattle.lucy_cert.specs.declared.steps.Proof.{Proof}
use Rattle.lucy_cert.specs.declared.steps.ProofStep.{ProofStep}
use Rattle.lucy_trim.proofs.Stepping.{trimmed_is, few_steps}
use Rattle.lucy_trim.proofs.trimming.trimmed.Goals as goal

proof_of : List ProofStep → Proof
proof_of steps = record { steps = steps }

pub returns-clause-proof : goal.returns-clause-proof
unfolding proof_of
returns-clause-proof c =
    ap proof_of (trimmed_is c.args.formula.now c.args.proof.now c.len-first.result c.in_ok-uses.uses.first c.in_ok-uses.uses.last c.as_slice.result.now c.as_slice-2.result.now c.in_ok-trimming.trimming
    c.len-first.ensures c.as_slice.ensures c.as_slice-2.ensures c.in_ok-uses.ensures.first c.in_ok-uses.ensures.last c.in_ok-trimming.ensures)

pub returns-clause-few : goal.returns-clause-few
returns-clause-few c =
    let e = few_steps c.args.formula.now c.args.proof.now c.len-first.result c.in_ok-uses.uses.first c.in_ok-uses.uses.last c.as_slice-2.result.now c.in_ok-trimming.trimming c.len-first.ensures c.as_slice-2.ensures c.in_ok-uses.ensures.first c.in_ok-trimming.ensures in
    below c.in_ok-trimming.trimming.at (length c.args.formula.now.clauses + length c.args.proof.now.steps) e c.narrow.ensures
  where
    below : (n m : ℕ) → n ≡ m → n < 2 ^ 64 → m ≤ 2 ^ 64
    below n m e h = omega arith
