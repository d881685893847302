-- A safe world without a change, in which each call has a reply, is a legal outcome.
use Rattle.std.proofs.Common.{◌≡◌, ◌<◌, ◌≤◌, ◌+◌, ◌⊎◌, ◌++◌, ◌==◌, ℕ, zero, suc, Bool, true, false, if◌then◌else◌, List, [], ◌∷◌, length, map, refl, sym, ap, ◌∙◌, subst, inl, inr, ⊎_elim, arith}
use Rattle.std.specs.Prelude.{Some, take, slice_get, Contains}
use Rattle.std.proofs.lemmas.List.{length-map, length-append, append-nil}
use Rattle.std.proofs.lemmas.List.Elements.{Contains-append_left, Contains-append_right, Contains-append_cases}
use Rattle.std.proofs.lemmas.Option.{same_Some, slice_get_within}
use Rattle.std.proofs.lemmas.Bool.{le-leb, eqb-true}
use Rattle.lucy_plan.specs.Soundness.{IsSound}
use Rattle.lucy_plan.specs.declared.parts.Call.{Call}
use Rattle.lucy_plan.specs.declared.parts.PlanParts.{PlanParts}
use Rattle.lucy_expr.specs.Trees.{Tree, Start, Apply, Merge, spine, nodes, ids}
use Rattle.lucy_expr.specs.declared.ids.Id.{Id}
use Rattle.lucy_epochs.specs.Records.{Record, first_record}
use Rattle.lucy_epochs.specs.Contributions.{Contribution}
use Rattle.lucy_calls.specs.declared.steps.Step.{Step}
use Rattle.lucy_replica.specs.Replicas.{Answer, Done, Broken, Moved, Refused, Stay, Replica, newcomer, present, stays}
use Rattle.lucy_replica.specs.Submitting.{accepted_ids}
use Rattle.lucy_replica.specs.Facts.{AreCounted, done_in, spine_calls, IsRight, NeverFall}
use Rattle.lucy_replica.specs.Legal.{records_of, is_up_to, one_if, accepted_to, AreAccepted, IsLegal}
use Rattle.lucy_core.specs.Laws.{SafeOutcomeIsLegal, RunOutcomeIsLegal, OpeningIsSafe, RunsKeepSafe}
use Rattle.lucy_core.specs.Worlds.{World, Idle, lags, IsAt, newcomers, opening_world, IsWorkOf}
use Rattle.lucy_core.specs.Steps.{world_after}
use Rattle.lucy_core.specs.Safety.{AreOnSpines, IsOnSpineOf, IsSafe, KeepsFacts}
use Rattle.lucy_core.proofs.Places.{here, later, here_or_later}
use Rattle.lucy_core.proofs.Kept.{IsKept}
use Rattle.lucy_core.proofs.Beginning.{none_due_idle}
use Rattle.lucy_core.proofs.Contents.{none_in, stay_of, exists_at}
use Rattle.lucy_core.proofs.Meaning.{kept_from}
use Rattle.lucy_core.proofs.RunLemmas.{run_after}

-- ---- ids, nodes and spines
id_node : (tree : Tree) (id : Id) → Contains (ids tree) id → (call : Call) × (inner : Tree) × Contains (nodes tree) (Apply id call inner)
id_node Start id h = absurd (none_in id h)
id_node (Apply made call inner) id h =
    ⊎_elim
    (λ e. (call, inner, subst (λ (i : Id). Contains (nodes (Apply made call inner)) (Apply i call inner)) e (here (Apply made call inner) (nodes inner))))
    (λ c. let found = id_node inner id c in (found.0, found.1, later (Apply made call inner) (Apply id found.0 found.1) (nodes inner) found.2))
    (here_or_later made id (ids inner) h)
id_node (Merge left right) id h =
    ⊎_elim
    (λ l. let found = id_node left id l in
    (found.0, found.1, later (Merge left right) (Apply id found.0 found.1) (nodes left ++ nodes right) (Contains-append_left (nodes left) (nodes right) (Apply id found.0 found.1) found.2)))
    (λ r. let found = id_node right id r in
    (found.0, found.1, later (Merge left right) (Apply id found.0 found.1) (nodes left ++ nodes right) (Contains-append_right (nodes left) (nodes right) (Apply id found.0 found.1) found.2)))
    (Contains-append_cases (ids left) (ids right) id h)

spine_call : (tree : Tree) (id : Id) (call : Call) (inner : Tree) → Contains (spine tree) (Apply id call inner) → Contains (spine_calls tree) (id, call)
spine_call Start id call inner h = absurd (⊎_elim (λ e. let no : ⊥ = cc in no) (λ c. none_in (Apply id call inner) c) (here_or_later Start (Apply id call inner) [] h))
spine_call (Apply made first below) id call inner h =
    ⊎_elim
    (λ e.
    let same_id : made ≡ id = cc in
    let same : first ≡ call = cc in
    Contains-append_right (spine_calls below) ((made, first) ∷ []) (id, call)
    (subst (λ (p : Id × Call). Contains ((made, first) ∷ []) p) (λ i. (same_id i, same i)) (here (made, first) [])))
    (λ c. Contains-append_left (spine_calls below) ((made, first) ∷ []) (id, call) (spine_call below id call inner c))
    (here_or_later (Apply made first below) (Apply id call inner) (spine below) h)
spine_call (Merge left right) id call inner h =
    ⊎_elim (λ e. absurd (let no : ⊥ = cc in no)) (λ c. spine_call left id call inner c) (here_or_later (Merge left right) (Apply id call inner) (spine left) h)

-- what is below a point of a spine is in the whole
point_nodes : (tree point node : Tree) → Contains (spine tree) point → Contains (nodes point) node → Contains (nodes tree) node
point_nodes Start point node h g =
    ⊎_elim (λ e. subst (λ (t : Tree). Contains (nodes t) node) (sym e) g) (λ c. absurd (none_in point c)) (here_or_later Start point [] h)
point_nodes (Apply id call inner) point node h g =
    ⊎_elim
    (λ e. subst (λ (t : Tree). Contains (nodes t) node) (sym e) g)
    (λ c. later (Apply id call inner) node (nodes inner) (point_nodes inner point node c g))
    (here_or_later (Apply id call inner) point (spine inner) h)
point_nodes (Merge left right) point node h g =
    ⊎_elim
    (λ e. subst (λ (t : Tree). Contains (nodes t) node) (sym e) g)
    (λ c. later (Merge left right) node (nodes left ++ nodes right) (Contains-append_left (nodes left) (nodes right) node (point_nodes left point node c g)))
    (here_or_later (Merge left right) point (spine left) h)

-- ---- counts
cond_has : (b : Bool) (p q : Id × Call) (xs : List (Id × Call)) → Contains (if b then p ∷ xs else xs) q → ((b ≡ true) × (p ≡ q)) ⊎ Contains xs q
cond_has true p q xs h = ⊎_elim (λ e. inl (refl, e)) (λ c. inr c) (here_or_later p q xs h)
cond_has false p q xs h = inr h

-- a call that is done in a record has the reply
done_from : (number : ℕ) (calls : List Call) (replies : List Answer) (id : Id) (call : Call) → Contains (done_in number calls replies) (id, call)
    → (place : ℕ) × (epoch : Record) × (slice_get replies place ≡ Some (Done epoch id)) × (epoch.number ≡ number)
done_from number [] replies id call h = absurd (none_in (id, call) h)
done_from number (first ∷ calls) [] id call h = absurd (none_in (id, call) h)
done_from number (first ∷ calls) (Done at made ∷ replies) id call h =
    ⊎_elim
    (λ now. let same : made ≡ id = ap (λ (p : Id × Call). p.0) now.1 in (0, at, ap (λ (i : Id). Some (Done at i)) same, eqb-true at.number number now.0))
    (λ c. let found = done_from number calls replies id call c in (suc found.0, found.1, found.2, found.3))
    (cond_has (at.number == number) (made, first) (id, call) (done_in number calls replies) h)
done_from number (first ∷ calls) (Broken at point ∷ replies) id call h = let found = done_from number calls replies id call h in (suc found.0, found.1, found.2, found.3)
done_from number (first ∷ calls) (Moved at point made ∷ replies) id call h = let found = done_from number calls replies id call h in (suc found.0, found.1, found.2, found.3)
done_from number (first ∷ calls) (Refused point parts ∷ replies) id call h = let found = done_from number calls replies id call h in (suc found.0, found.1, found.2, found.3)

fewer_fall : (answer : Answer) (replies : List Answer) → NeverFall (answer ∷ replies) → NeverFall replies
fewer_fall answer replies rising earlier late first second m n le h g e f = rising (suc earlier) (suc late) first second m n (omega (arith, le)) h g e f

counts_one : (number at : ℕ) → at ≤ number → one_if (is_up_to number (Some at)) ≡ 1
counts_one number at le = ap one_if (le-leb at number le)

-- a call that is done has a count below the number of those accepted up to its record
count_below : (replica count : ℕ) (replies : List Answer) (place : ℕ) (epoch : Record) (id : Id) → AreCounted replica count (accepted_ids replies) → NeverFall replies
    → slice_get replies place ≡ Some (Done epoch id) → id.count < count + accepted_to epoch.number replies
count_below replica count [] place epoch id counted rising h = cc
count_below replica count (Done at made ∷ replies) zero epoch id counted rising h =
    let same : made ≡ id = cc in
    let same_at : at ≡ epoch = cc in
    let one = counts_one epoch.number at.number (let e = ap (λ (r : Record). r.number) same_at in omega (arith, e)) in
    let is : id.count ≡ count = ap (λ (i : Id). i.count) (sym same ∙ counted.0) in
    omega (arith, one, is)
count_below replica count (Broken at point ∷ replies) zero epoch id counted rising h = cc
count_below replica count (Moved at point made ∷ replies) zero epoch id counted rising h = cc
count_below replica count (Refused point parts ∷ replies) zero epoch id counted rising h = cc
count_below replica count (Done at made ∷ replies) (suc place) epoch id counted rising h =
    let one = counts_one epoch.number at.number (rising 0 (suc place) (Done at made) (Done epoch id) at.number epoch.number (omega arith) refl h refl refl) in
    omega (arith, one, count_below replica (count + 1) replies place epoch id counted.1 (fewer_fall (Done at made) replies rising) h)
count_below replica count (Moved at point made ∷ replies) (suc place) epoch id counted rising h =
    let one = counts_one epoch.number at.number (rising 0 (suc place) (Moved at point made) (Done epoch id) at.number epoch.number (omega arith) refl h refl refl) in
    omega (arith, one, count_below replica (count + 1) replies place epoch id counted.1 (fewer_fall (Moved at point made) replies rising) h)
count_below replica count (Broken at point ∷ replies) (suc place) epoch id counted rising h =
    omega (arith, count_below replica count replies place epoch id counted (fewer_fall (Broken at point) replies rising) h)
count_below replica count (Refused point parts ∷ replies) (suc place) epoch id counted rising h =
    omega (arith, count_below replica count replies place epoch id counted (fewer_fall (Refused point parts) replies rising) h)

-- ---- the outcome
module _ (w : World) (kept : IsKept w) where
  -- in an expression whose calls are on spines, each id is of an accepted call
  accepted_of : (epoch : Record) (tree : Tree) → AreOnSpines w epoch tree → AreAccepted w.replicas epoch.number tree
  accepted_of epoch tree on_spines id h =
      let node = id_node tree id h in
      let owner = on_spines id node.0 node.1 node.2 in
      let settled = kept.settled id.replica owner.0 owner.1 in
      let stay : Stay = owner.2.0 in
      let done : Contains (done_in stay.epoch.number owner.0.calls owner.0.replies) (id, node.0) =
      subst (λ (calls : List (Id × Call)). Contains calls (id, node.0)) (sym (stay_of owner.0 stay settled owner.2.1).done) (spine_call stay.tree id node.0 node.1 owner.2.3) in
      let reply = done_from stay.epoch.number owner.0.calls owner.0.replies id node.0 done in
      let below = count_below owner.0.number 0 owner.0.replies reply.0 reply.1 id settled.counted settled.rising reply.2 in
      let number_is : reply.1.number ≡ epoch.number = reply.3 ∙ ap (λ (e : Record). e.number) owner.2.2 in
      (owner.0, owner.1, subst (λ (n : ℕ). id.count < accepted_to n owner.0.replies) number_is (let e : 0 + accepted_to reply.1.number owner.0.replies ≡ accepted_to reply.1.number owner.0.replies = omega arith in subst (λ (n : ℕ). id.count < n) e below))

  -- a part's calls are on spines, since the part was on one
  part_on_spines : (seat : ℕ) (part : Contribution) → IsOnSpineOf w seat part.epoch part.expression.tree → AreOnSpines w part.epoch part.expression.tree
  part_on_spines seat part on id call inner h =
      let stay : Stay = on.2.0 in
      subst (λ (e : Record). IsOnSpineOf w id.replica e (Apply id call inner)) on.2.2
      (kept.on_spines seat on.0 stay on.1 on.2.1 id call inner (point_nodes stay.tree part.expression.tree (Apply id call inner) on.2.3 h))

  module _ (plan : PlanParts) (work : List (List Call)) (idle : w.course ≡ Idle)
      (first : slice_get w.records 0 ≡ Some (first_record plan)) (calls : map (λ (replica : Replica). replica.calls) w.replicas ≡ work)
      (all : (number : ℕ) (replica : Replica) → IsAt w number replica → length replica.replies ≡ length replica.calls) where
    same_records : (number : ℕ) (replica : Replica) → IsAt w number replica → records_of replica ≡ w.records
    same_records number replica at =
        let of : Stay → Record = λ stay. stay.epoch in
        let front = kept.in_order.fronts number replica at in
        let last = kept.at_last number replica at (ap (λ course. lags course number) idle) in
        let settled = kept.settled number replica at in
        let long : length (records_of replica) + length front.0 ≡ length w.records = sym (length-append (records_of replica) front.0) ∙ ap length (sym front.1) in
        let many : length (records_of replica) ≡ length replica.closings + 1 =
        omega (arith, length-map (stays replica) of, length-append replica.closings (present replica ∷ [])) in
        sym (front.1 ∙ ap (λ (more : List Record). records_of replica ++ more) (empty front.0 (omega (arith, long, many, last, settled.present_number))) ∙ append-nil (records_of replica))
      where
        empty : (xs : List Record) → length xs ≡ 0 → xs ≡ []
        empty [] h = refl
        empty (x ∷ xs) h = absurd (omega (arith, h))

    pub legal : IsLegal plan work w.replicas
    legal = record {
      records = w.records;
      same = same_records;
      first = first;
      opened = λ place before after is next.
          let opened = kept.openings place before after is next in
          (opened.by, opened.opening, ⊎_elim (λ replied. replied) (λ due. absurd (none_due_idle w idle after due)) opened.answered);
      made = λ number replica stay at h. (stay_of replica stay (kept.settled number replica at) h).made;
      numbers = kept.seated;
      calls = calls;
      all_answered = all;
      done = λ number replica stay at h. (stay_of replica stay (kept.settled number replica at) h).done;
      right = λ number replica place call at is.
          let below = slice_get_within replica.calls place call is in
          let reply = exists_at replica.replies place (omega (arith, below, all number replica at)) in
          let answered = (kept.settled number replica at).answered place reply.0 reply.1 in
          let same : answered.0 ≡ call = same_Some answered.0 call (sym answered.1 ∙ is) in
          (reply.0, reply.1, subst (λ (c : Call). IsRight replica place c reply.0) same answered.2);
      parts_many = λ number replica place point parts at is. (kept.refusals number replica place point parts at is).many;
      accepted = λ number replica stay at h. accepted_of stay.epoch stay.tree (kept.on_spines number replica stay at h);
      parts_accepted = λ number replica place point parts seat part at is h.
          accepted_of part.epoch part.expression.tree (part_on_spines seat part ((kept.refusals number replica place point parts at is).on_spines seat part h));
    }

pub safe_outcome_is_legal : SafeOutcomeIsLegal
safe_outcome_is_legal w plan work safe facts idle first calls all = legal w (kept_from w safe facts) plan work idle first calls all

-- ---- the work of a run
newcomer_calls : (first : Record) (count from : ℕ) (work : List (List Call)) → map (λ (replica : Replica). replica.calls) (newcomers first count from work) ≡ work
newcomer_calls first count from [] = refl
newcomer_calls first count from (calls ∷ work) = ap (λ (lists : List (List Call)). calls ∷ lists) (newcomer_calls first count (from + 1) work)

take_all : {X : Type 0} (xs : List X) → take (length xs) xs ≡ xs
take_all [] = refl
take_all (x ∷ xs) = ap (λ (ys : _). x ∷ ys) (take_all xs)

pub run_outcome_is_legal : OpeningIsSafe → RunsKeepSafe → RunOutcomeIsLegal
run_outcome_is_legal opens keeps plan work steps sound fits idle all =
    let w : World = world_after (opening_world plan work) steps in
    let begun = opens plan work sound fits in
    let both = subst (λ (list : List Step). IsSafe (world_after (opening_world plan work) list) × KeepsFacts (world_after (opening_world plan work) list)) (take_all steps)
    (keeps (opening_world plan work) steps (length steps) begun.0 begun.1) in
    let after = run_after (opening_world plan work) steps in
    safe_outcome_is_legal w plan work both.0 both.1 idle (after.records 0 (first_record plan) refl) (after.calls ∙ newcomer_calls (first_record plan) (length work) 0 work) all
