-- The first refusal among answers is a refusal of one of them.
use Rattle.std.proofs.Common.{◌<◌, ℕ, zero, suc, List, [], ◌∷◌, length, slice_index_or, IfErr, Result, Ok, Err, arith}
use Rattle.lucy_cluster.specs.declared.error.ClusterError.{ClusterError}
use Rattle.lucy_cluster.specs.Causes.{refusal_of}

-- what is true of each refusal among answers is true of the first
pub first_is_one : (P : ClusterError → Type 0) (answers : List (Result (Unit {0}) ClusterError))
    → ((place : ℕ) (d : _) → place < length answers → IfErr (slice_index_or answers place d) P) → IfErr (refusal_of answers) P
first_is_one P [] each = tt
first_is_one P (Ok done ∷ answers) each = first_is_one P answers (λ place d below. each (suc place) d (omega (arith, below)))
first_is_one P (Err error ∷ answers) each = each zero (Err error) (omega arith)
