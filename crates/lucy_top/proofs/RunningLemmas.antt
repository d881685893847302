-- One step more of a replay.
use Rattle.std.proofs.Common.{◌≡◌, ◌<◌, ◌≤◌, ◌+◌, ◌++◌, ℕ, zero, suc, arith, List, [], ◌∷◌, length, drop, get_or, append_assoc, add-one, refl, sym, ap, ◌∙◌}
use Rattle.std.proofs.lemmas.List.{length-map}
use Rattle.std.proofs.Math.Seq.{drop-cons}
use Rattle.lucy_plan.specs.declared.parts.Call.{Call}
use Rattle.lucy_calls.specs.declared.steps.Step.{Step}
use Rattle.lucy_epochs.specs.Records.{Record}
use Rattle.lucy_replica.specs.Replicas.{Replica}
use Rattle.lucy_core.specs.Worlds.{World, newcomers}
use Rattle.lucy_core.specs.Steps.{step_of, world_after}
use Rattle.lucy_core.specs.Laws.{WorkStays}
use Rattle.lucy_top.specs.Laws.{LinesJoin}
use Rattle.lucy_top.specs.Replays.{line_after, run_lines}

-- the opening world has a replica for each list of the work
pub as_many : (first : Record) (count number : ℕ) (work : List (List Call)) → length (newcomers first count number work) ≡ length work
as_many first count number [] = refl
as_many first count number (calls ∷ work) = ap suc (as_many first count (number + 1) work)

-- a step leaves as many replicas
step_count : WorkStays → (w : World) (step : Step) → length (step_of w step).1.replicas ≡ length w.replicas
step_count stays w step =
    sym (length-map (step_of w step).1.replicas (λ (r : Replica). r.number)) ∙ ap (λ (ns : List ℕ). length ns) (stays w (step ∷ [])).0 ∙ length-map w.replicas (λ (r : Replica). r.number)

module _ (w v : World) (steps : List Step) (i : ℕ) (d : Step) (within : i < length steps) (is : v ≡ (step_of w (get_or steps i d)).1) where
  run_on : run_lines w (drop i steps) ≡ line_after (get_or steps i d) (step_of w (get_or steps i d)) ++ run_lines (step_of w (get_or steps i d)).1 (drop (i + 1) steps)
  run_on = ap (run_lines w) (drop-cons steps i d within) ∙ rw add-one refl

  pub text_more : (before after total : List ℕ) → after ≡ before ++ line_after (get_or steps i d) (step_of w (get_or steps i d)) → before ++ run_lines w (drop i steps) ≡ total
      → after ++ run_lines v (drop (i + 1) steps) ≡ total
  text_more before after total grown so = rw (is, grown) (append_assoc before _ _ ∙ ap (λ (rest : List ℕ). before ++ rest) (sym run_on) ∙ so)

  pub world_more : (last : World) → world_after w (drop i steps) ≡ last → world_after v (drop (i + 1) steps) ≡ last
  world_more last so = rw is (rw add-one (sym (ap (world_after w) (drop-cons steps i d within)) ∙ so))

  pub count_more : WorkStays → (n : ℕ) → length w.replicas ≡ n → length v.replicas ≡ n
  count_more stays n so = ap (λ (x : World). length x.replicas) is ∙ step_count stays w (get_or steps i d) ∙ so

pub lines_join_so : LinesJoin
lines_join_so w [] second = refl
lines_join_so w (step ∷ steps) second =
    ap (λ (rest : List ℕ). line_after step (step_of w step) ++ rest) (lines_join_so (step_of w step).1 steps second)
    ∙ sym (append_assoc (line_after step (step_of w step)) (run_lines (step_of w step).1 steps) (run_lines (world_after (step_of w step).1 steps) second))

drop_none : {A : Type 0} (xs : List A) (i : ℕ) → length xs ≤ i → drop i xs ≡ []
drop_none [] zero past = refl
drop_none [] (suc i) past = refl
drop_none (x ∷ xs) zero past = absurd (omega arith)
drop_none (x ∷ xs) (suc i) past = drop_none xs i (omega arith)

-- behind the last step the world is the last one
pub world_done : (w last : World) (steps : List Step) (i : ℕ) → length steps ≤ i → world_after w (drop i steps) ≡ last → w ≡ last
world_done w last steps i past so = ap (world_after w) (sym (drop_none steps i past)) ∙ so
