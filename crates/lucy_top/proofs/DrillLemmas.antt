-- What a drill runs, and what it counts.
use Rattle.std.proofs.Common.{◌≡◌, ◌<◌, ◌≤◌, ℕ, Bool, true, false, nat_lt, List, [], ◌∷◌, length, get_or, refl, sym, ap, subst, ◌∙◌, arith}
use Rattle.std.specs.Prelude.{slice_get, All, Result, Ok, Err, IfOk}
use Rattle.std.specs.declared.alloc.AllocError.{AllocError}
use Rattle.std.proofs.lemmas.Bool.{ltb-true, ltb-false}
use Rattle.std.proofs.lemmas.List.{length-map}
use Rattle.std.proofs.lemmas.Option.{slice_get_within}
use Rattle.lucy_calls.specs.Laws.{IsStepOf}
use Rattle.lucy_calls.specs.declared.steps.Step.{Step}
use Rattle.lucy_calls.specs.declared.works.Work.{Work}
use Rattle.lucy_core.specs.Laws.{OpeningIsSafe, RunsKeepSafe, WorkStays}
use Rattle.lucy_core.specs.Steps.{world_after}
use Rattle.lucy_core.specs.Worlds.{IsWorkOf, World, opening_world}
use Rattle.lucy_epochs.specs.Records.{first_record}
use Rattle.lucy_make.specs.Drills.{drill_text}
use Rattle.lucy_make.specs.Work.{made_work, lists_of}
use Rattle.lucy_make.specs.declared.drills.Drill.{Drill}
use Rattle.lucy_plan.specs.Soundness.{IsSound}
use Rattle.lucy_plan.specs.declared.parts.Call.{Call}
use Rattle.lucy_plan.specs.declared.parts.PlanParts.{PlanParts}
use Rattle.lucy_replica.specs.Facts.{IsSettled}
use Rattle.lucy_replica.specs.Replicas.{Answer, Replica}
use Rattle.lucy_top.specs.Drills.{drill_work, drill_steps, drill_end, drill_of, counts}
use Rattle.lucy_top.specs.Replays.{IsSafeThroughout}
use Rattle.lucy_top.proofs.LookupLemmas.{at_place}
use Rattle.lucy_top.proofs.RunningLemmas.{as_many}

-- a drill's work is of four replicas
pub four_lists : (plan : PlanParts) (seed : ℕ) → length (drill_work plan seed) ≡ 4
unfolding drill_work made_work lists_of
four_lists plan seed = refl

pub four_if : (plan : PlanParts) (seed : ℕ) (result : Result Work AllocError) → IfOk result (λ work. work.lists ≡ made_work plan seed 4 50) → IfOk result (λ work. length work.lists ≡ 4)
unfolding drill_work
four_if plan seed (Ok work) is = ap (λ (lists : List (List Call)). length lists) is ∙ four_lists plan seed
four_if plan seed (Err e) is = tt

-- the world has a replica for each list of its work, whatever happens
pub stay_as_many : WorkStays → (plan : PlanParts) (work : List (List Call)) (steps : List Step) → length (world_after (opening_world plan work) steps).replicas ≡ length work
stay_as_many stays plan work steps =
    let w : World = opening_world plan work in
    sym (length-map (world_after w steps).replicas (λ (r : Replica). r.number)) ∙ ap (λ (ns : List ℕ). length ns) (stays w steps).0 ∙ length-map w.replicas (λ (r : Replica). r.number)
    ∙ as_many (first_record plan) (length work) 0 work

-- what is told of the world after the steps is what a drill tells; `known` and `seen` are the plan, as its calls saw it
pub drilled_so : (plan known seen : PlanParts) (seed size many : ℕ) (work : List (List Call)) (steps : List Step) (w : World) (drill : Drill) (text : List ℕ)
    → known ≡ plan → seen ≡ plan → work ≡ drill_work known seed → steps ≡ drill_steps seed → many ≡ length steps → w ≡ world_after (opening_world plan work) steps
    → drill ≡ counts seen seed size many w → text ≡ drill_text drill → text ≡ drill_text (drill_of plan seed size)
unfolding drill_of drill_end
drilled_so plan known seen seed size many work steps w drill text known_is seen_is work_is steps_are many_are w_is drill_is text_is =
    let lists : work ≡ drill_work plan seed = work_is ∙ ap (λ (p : PlanParts). drill_work p seed) known_is in
    let last : w ≡ world_after (opening_world plan (drill_work plan seed)) (drill_steps seed) =
    w_is ∙ ap (λ (l : List (List Call)). world_after (opening_world plan l) steps) lists ∙ ap (λ (s : List Step). world_after (opening_world plan (drill_work plan seed)) s) steps_are in
    let length_is : many ≡ length (drill_steps seed) = many_are ∙ ap (λ (s : List Step). length s) steps_are in
    text_is ∙ ap drill_text (drill_is ∙ ap (λ (p : PlanParts). counts p seed size many w) seen_is ∙ ap (λ (n : ℕ). counts plan seed size n w) length_is
    ∙ ap (λ (v : World). counts plan seed size (length (drill_steps seed)) v) last)

-- the world of a drill is safe after each front of the steps
pub drill_safe : OpeningIsSafe → RunsKeepSafe → (plan known : PlanParts) (seed : ℕ) (work : List (List Call)) → known ≡ plan → work ≡ drill_work known seed → IsSound plan → IsWorkOf known work
    → IsSafeThroughout plan (drill_work plan seed) (drill_steps seed)
drill_safe opens keep plan known seed work known_is work_is sound fits =
    let lists : work ≡ drill_work plan seed = work_is ∙ ap (λ (p : PlanParts). drill_work p seed) known_is in
    let here : IsWorkOf plan (drill_work plan seed) = subst (λ (l : List (List Call)). IsWorkOf plan l) lists (subst (λ (p : PlanParts). IsWorkOf p work) known_is fits) in
    let opening = opens plan (drill_work plan seed) sound here in
    let kept = keep (opening_world plan (drill_work plan seed)) (drill_steps seed) in
    record { safe = λ n. (kept n opening.0 opening.1).0; facts = λ n. (kept n opening.0 opening.1).1 }

-- steps of a work are steps of its opening world
pub steps_of_opening : (plan : PlanParts) (work : List (List Call)) (steps : List Step) (w : World) → w ≡ opening_world plan work → All (IsStepOf (length work)) steps → All (IsStepOf (length w.replicas)) steps
steps_of_opening plan work steps w is of_work =
    subst (λ (n : ℕ). All (IsStepOf n) steps) (sym (ap (λ (v : World). length v.replicas) is ∙ as_many (first_record plan) (length work) 0 work)) of_work

-- not less is at most
not_less : (m n : ℕ) (b : Bool) → nat_lt m n ≡ b → (m < n → ⊥) → n ≤ m
not_less m n true is not = absurd (not (ltb-true m n is))
not_less m n false is not = ltb-false m n is

no_more : (replica : Replica) (first : Answer) (rest : List Answer) → IsSettled replica → replica.replies ≡ first ∷ rest → length replica.calls < length (first ∷ rest) → ⊥
no_more replica first rest settled is more =
    let place = length replica.calls in
    let at = ap (λ (rs : List Answer). slice_get rs place) is ∙ at_place (first ∷ rest) place first more in
    let found = settled.answered place (get_or (first ∷ rest) place first) at in
    let within : place < place = slice_get_within replica.calls place found.0 found.1 in
    omega (arith, within)

few_by : (replica : Replica) (replies : List Answer) → IsSettled replica → replica.replies ≡ replies → length replies ≤ 4096
few_by replica [] settled is = omega arith
few_by replica (first ∷ rest) settled is =
    let few : length (first ∷ rest) ≤ length replica.calls = not_less (length replica.calls) (length (first ∷ rest)) (nat_lt (length replica.calls) (length (first ∷ rest))) refl (no_more replica first rest settled is) in
    omega (arith, few, settled.few)

-- there is a call for each reply, so there are no more than 4,096 replies
pub replies_few : (replica : Replica) → IsSettled replica → length replica.replies ≤ 4096
replies_few replica settled = few_by replica replica.replies settled refl
