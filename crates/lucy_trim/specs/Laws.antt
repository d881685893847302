-- Laws of trimmed proofs.
use Rattle.std.specs.Prelude.{◌≡◌, ℕ, ◌+◌, ◌≤◌, ◌^◌, length, Some, None, true, false}
use Rattle.std.specs.List.{list_all}
use Rattle.lucy_clauses.specs.declared.formulas.Formula.{Formula}
use Rattle.lucy_cert.specs.declared.steps.Proof.{Proof}
use Rattle.lucy_cert.specs.Refuting.{Refutes}
use Rattle.lucy_cert.specs.Writable.{step_fits}
use Rattle.lucy_trim.specs.Trimming.{has_no_drops, trimmed, live_of}

-- a trimmed proof refutes what the proof refutes, with no more live clauses than it has at some step
abbrev pub TrimmedRefutes : Type 0
TrimmedRefutes = (f : Formula) (p : Proof) → has_no_drops p ≡ true → Refutes f p None → Refutes f (trimmed f p) (Some (live_of (trimmed f p)))

-- what is refuted with some live clauses is refuted where more are allowed
abbrev pub MoreLiveRefutes : Type 0
MoreLiveRefutes = (f : Formula) (p : Proof) (few more : ℕ) → few ≤ more → Refutes f p (Some few) → Refutes f p (Some more)

-- the steps of a trimmed proof can be written where those of the proof can
abbrev pub TrimmedIsWritable : Type 0
TrimmedIsWritable = (f : Formula) (p : Proof) → length f.clauses + length p.steps ≤ 2 ^ 64 → list_all (step_fits false) p.steps ≡ true → list_all (step_fits true) (trimmed f p).steps ≡ true
