use Rattle.std.proofs.Common.{◌≡◌, ℕ, ◌<◌, vec_len, max}
use Rattle.std.specs.Prelude.{slice_index}
use Rattle.lucy_expr.proofs.counting.greater.Given as goal

abbrev pub invariant-loop-place : goal.invariant-loop-place
invariant-loop-place l =
    (vec_len l.counts ≡ l.place) × ((r : ℕ) → r < l.place → slice_index l.counts.items r ≡ max (slice_index l.left r) (slice_index l.right r))
