-- What one thread alone does, step by step.
use Rattle.std.proofs.Common.{◌≡◌, ◌<◌, ◌≤◌, ◌+◌, ◌-◌, ◌++◌, ℕ, zero, suc, Bool, true, false, if◌then◌else◌, List, [], ◌∷◌, length, drop, get_or, append_assoc, append-nil, add-one, refl, sym, ap, ◌∙◌, subst, arith}
use Rattle.std.specs.Prelude.{All}
use Rattle.std.proofs.Math.Seq.{drop-cons}
use Rattle.std.proofs.lemmas.List.Elements.{All-cons, All-append}
use Rattle.lucy_plan.specs.declared.parts.Call.{Call}
use Rattle.lucy_calls.specs.Laws.{IsStepOf}
use Rattle.lucy_calls.specs.declared.steps.Step.{Step}
use Rattle.lucy_calls.specs.declared.steps.Step.TheVariants.{Submit, Begin, Freeze, OpenEpoch, Thaw}
use Rattle.lucy_replica.specs.declared.events.Event.{Event}
use Rattle.lucy_core.specs.Worlds.{World}
use Rattle.lucy_core.specs.Steps.{step_of, run_of, world_after}
use Rattle.lucy_core.specs.Alone.{freezes, thaws, whole_change, is_wanting, after_call, after_calls, after_lists}
use Rattle.lucy_core.proofs.Rows.{if_cases}
use Rattle.lucy_core.proofs.RunLemmas.{step_keeps_count}

-- ---- the steps of a change
pub freezes_more : (before : List Step) (from replicas : ℕ) → from < replicas
    → (before ++ Freeze from ∷ []) ++ freezes (from + 1) (replicas - (from + 1)) ≡ before ++ freezes from (replicas - from)
freezes_more before from replicas below =
    let left : replicas - from ≡ suc (replicas - (from + 1)) = omega (arith, below) in
    rw left (append_assoc before (Freeze from ∷ []) (freezes (from + 1) (replicas - (from + 1))))

pub no_freezes : (before : List Step) (from replicas : ℕ) → replicas ≤ from → before ++ freezes from (replicas - from) ≡ before
no_freezes before from replicas past =
    let none : replicas - from ≡ 0 = omega (arith, past) in
    rw none (append-nil before)

pub thaws_more : (before : List Step) (left : ℕ) → 0 < left → (before ++ Thaw (left - 1) ∷ []) ++ thaws (left - 1) ≡ before ++ thaws left
thaws_more before zero some = absurd (omega (arith, some))
thaws_more before (suc left) some =
    let less : suc left - 1 ≡ left = omega arith in
    rw less (append_assoc before (Thaw left ∷ []) (thaws left))

each_freeze : (replicas from count : ℕ) → from + count ≤ replicas → All (IsStepOf replicas) (freezes from count)
each_freeze replicas from zero within = λ place step below. absurd (omega (arith, below))
each_freeze replicas from (suc count) within =
    All-cons (IsStepOf replicas) (Freeze from) (freezes (from + 1) count) (omega (arith, within)) (each_freeze replicas (from + 1) count (omega (arith, within)))

each_thaw : (replicas number : ℕ) → number ≤ replicas → All (IsStepOf replicas) (thaws number)
each_thaw replicas zero within = λ place step below. absurd (omega (arith, below))
each_thaw replicas (suc number) within = All-cons (IsStepOf replicas) (Thaw number) (thaws number) (omega (arith, within)) (each_thaw replicas number (omega (arith, within)))

-- a whole change is of steps that can be taken
pub each_step : (replicas number : ℕ) → number < replicas → All (IsStepOf replicas) (whole_change replicas number)
each_step replicas number below =
    All-cons (IsStepOf replicas) (Begin number) (freezes 0 replicas ++ OpenEpoch ∷ thaws replicas) below
    (All-append (IsStepOf replicas) (freezes 0 replicas) (OpenEpoch ∷ thaws replicas) (each_freeze replicas 0 replicas (omega arith))
    (All-cons (IsStepOf replicas) OpenEpoch (thaws replicas) tt (each_thaw replicas replicas (omega arith))))

-- ---- how many replicas there are
run_count : (w : World) (steps : List Step) → length (world_after w steps).replicas ≡ length w.replicas
run_count w [] = refl
run_count w (step ∷ steps) = run_count (step_of w step).1 steps ∙ step_keeps_count w step

pub call_count : (w : World) (number : ℕ) → length (after_call w number).replicas ≡ length w.replicas
call_count w number =
    if_cases {A = World} (λ v. length v.replicas ≡ length w.replicas) (is_wanting (step_of w (Submit number)).0) _ _
    (λ wants. run_count (step_of w (Submit number)).1 (whole_change (length w.replicas) number) ∙ step_keeps_count w (Submit number))
    (λ free. step_keeps_count w (Submit number))

pub calls_count : (count : ℕ) (w : World) (number : ℕ) → length (after_calls count w number).replicas ≡ length w.replicas
calls_count zero w number = refl
calls_count (suc count) w number = calls_count count (after_call w number) number ∙ call_count w number

-- ---- a call
abbrev after_submit : Event × World → ℕ → ℕ → World
after_submit answer replicas number = if is_wanting answer.0 then world_after answer.1 (whole_change replicas number) else answer.1

module _ (w middle : World) (event : Event) (number : ℕ) (did : step_of w (Submit number) ≡ (event, middle)) where
  pub called_free : is_wanting event ≡ false → middle ≡ after_call w number
  called_free free =
      sym (ap (λ (answer : Event × World). after_submit answer (length w.replicas) number) did
      ∙ ap (λ (b : Bool). let v : World = if b then world_after middle (whole_change (length w.replicas) number) else middle in v) free)

  -- the steps of a change can be taken
  pub change_taken : (list : List Step) (replicas : ℕ) → length w.replicas ≡ replicas → number < replicas → list ≡ whole_change replicas number → All (IsStepOf (length middle.replicas)) list
  change_taken list replicas many below are =
      let same : length middle.replicas ≡ replicas = ap (λ (answer : Event × World). length answer.1.replicas) (sym did) ∙ step_keeps_count w (Submit number) ∙ many in
      subst (λ (n : ℕ). All (IsStepOf n) list) (sym same) (subst (λ (steps : List Step). All (IsStepOf replicas) steps) (sym are) (each_step replicas number below))

  pub called_wanting : (after : World) (events : List Event) (steps : List Step) (replicas : ℕ) → is_wanting event ≡ true → length w.replicas ≡ replicas
      → steps ≡ whole_change replicas number → run_of middle steps ≡ (events, after) → after ≡ after_call w number
  called_wanting after events steps replicas wants many are ran =
      sym (ap (λ (answer : Event × World). after_submit answer (length w.replicas) number) did
      ∙ ap (λ (b : Bool). let v : World = if b then world_after middle (whole_change (length w.replicas) number) else middle in v) wants
      ∙ ap (λ (n : ℕ). world_after middle (whole_change n number)) many
      ∙ ap (λ (list : List Step). world_after middle list) (sym are)
      ∙ ap (λ (answer : List Event × World). answer.1) ran)

-- ---- the calls of a replica
pub calls_more : (w v : World) (number calls done : ℕ) → done < calls → v ≡ after_call w number → after_calls (calls - (done + 1)) v number ≡ after_calls (calls - done) w number
calls_more w v number calls done below is =
    let left : calls - done ≡ suc (calls - (done + 1)) = omega (arith, below) in
    rw (left, is) refl

pub no_calls : (w : World) (number calls done : ℕ) → calls ≤ done → after_calls (calls - done) w number ≡ w
no_calls w number calls done past =
    let none : calls - done ≡ 0 = omega (arith, past) in
    rw none refl

-- ---- the replicas of a work
pub lists_more : (w v : World) (work : List (List Call)) (number : ℕ) (calls : List Call) → number < length work → v ≡ after_calls (length (get_or work number calls)) w number
    → after_lists (drop (number + 1) work) v (number + 1) ≡ after_lists (drop number work) w number
lists_more w v work number calls below is =
    let next : suc number ≡ number + 1 = omega arith in
    let u = after_calls (length (get_or work number calls)) w number in
    sym (ap (λ (rest : List (List Call)). after_lists rest w number) (drop-cons work number calls below)
    ∙ ap (λ (n : ℕ). after_lists (drop n work) u (number + 1)) next
    ∙ ap (λ (x : World). after_lists (drop (number + 1) work) x (number + 1)) (sym is))

none_left : {X : Type 0} (xs : List X) (i : ℕ) → length xs ≤ i → drop i xs ≡ []
none_left [] zero past = refl
none_left [] (suc i) past = refl
none_left (x ∷ xs) zero past = absurd (omega (arith, past))
none_left (x ∷ xs) (suc i) past = none_left xs i (omega (arith, past))

pub no_lists : (w : World) (work : List (List Call)) (number : ℕ) → length work ≤ number → after_lists (drop number work) w number ≡ w
no_lists w work number past = ap (λ (rest : List (List Call)). after_lists rest w number) (none_left work number past)
