-- What keeps a replica settled.
use Rattle.std.proofs.Common.{◌≡◌, ◌<◌, ◌≤◌, ◌+◌, ◌++◌, ⊎_elim, ℕ, List, [], ◌∷◌, length, refl, ap, sym, ◌∙◌, subst, arith, append-nil, true, false, max, ◌==◌, ◌&&◌, nat_lt, nat_le, Bool, if◌then◌else◌}
use Rattle.std.specs.Prelude.{Option, Some, None, slice_get, Contains, IsTrue, not}
use Rattle.std.proofs.lemmas.Option.{slice_get_within, same_Some}
use Rattle.std.proofs.lemmas.List.Elements.{Contains-append_left}
use Rattle.std.proofs.lemmas.Bool.{eq-eqb}
use Rattle.std.proofs.lemmas.Bool.Decides.{nat_tests}
use Rattle.lucy_model.specs.Laws.{MergeIsIdempotent}
use Rattle.lucy_plan.specs.declared.parts.Call.{Call}
use Rattle.lucy_plan.specs.declared.parts.PlanParts.{PlanParts}
use Rattle.lucy_plan.specs.Calls.{Fits}
use Rattle.lucy_plan.specs.Segments.{IsInSegment, is_in_segment}
use Rattle.lucy_plan.specs.Laws.{SegmentIsWhole}
use Rattle.lucy_plan.specs.Soundness.{IsSound}
use Rattle.lucy_expr.specs.Trees.{Tree, Start, Apply, Merge, spine, depth}
use Rattle.lucy_expr.specs.Expressions.{Expression}
use Rattle.lucy_expr.specs.Reachability.{lists, RunsIn, IsReachable}
use Rattle.lucy_expr.specs.Laws.{ClosedSegmentHoldsValues}
use Rattle.lucy_expr.specs.declared.ids.Id.{Id}
use Rattle.lucy_epochs.specs.Records.{Record, first_record}
use Rattle.lucy_epochs.specs.Contributions.{IsMade}
use Rattle.lucy_epochs.specs.declared.causes.By.{By}
use Rattle.lucy_epochs.proofs.Places.{push_cases_at}
use Rattle.lucy_replica.specs.Replicas.{Answer, Done, Broken, Moved, Refused, Stay, Replica, Message, present, stays, newcomer}
use Rattle.lucy_replica.specs.Submitting.{accepted, accepted_ids, next_call, next_id, result_of, breaks, Breaks, is_inside, IsInside, IsOutside, with_broken, with_done, with_wanted, tried}
use Rattle.lucy_replica.specs.Receiving.{is_same_record, is_deep, with_merged}
use Rattle.lucy_replica.specs.Laws.{SubmitKeeps, ReceiveKeeps, SameExactly}
use Rattle.lucy_replica.specs.declared.answers.Submitted.{Submitted}
use Rattle.lucy_replica.specs.declared.answers.Submitted.TheVariants as answer
use Rattle.lucy_replica.specs.declared.answers.Received.{Received}
use Rattle.lucy_replica.specs.declared.answers.Received.TheVariants as answered
use Rattle.lucy_replica.proofs.Staying.{left_true, right_true, value_within}
use Rattle.lucy_replica.specs.Facts.{AreCounted, done_in, spine_calls, WasIn, WasAt, IsStay, IsRight, IsWanted, accepted_in, NeverFall, IsSettled}
use Rattle.lucy_replica.proofs.Lists.{place_of, snoc_has, first_is, last_is, later}
use Rattle.lucy_replica.proofs.Acceptance.{accepted_ids-append, counted_more, one_more, none_done, IsOther, done_in-other, done_in-done}

none_closed : (place : ℕ) (stay : Stay) → slice_get [] place ≡ Some stay → ⊥
none_closed place stay h = cc

none_answered : (place : ℕ) (answer : Answer) → slice_get [] place ≡ Some answer → ⊥
none_answered place answer h = cc

pub none_wanted : (point : Tree) → None ≡ Some point → ⊥
none_wanted point h = cc

pub newcomer_settled : (number replicas : ℕ) (plan : PlanParts) (calls : List Call) → IsInSegment plan (first_record plan).segment plan.start → IsSound plan
    → number < replicas → length calls ≤ 4096 → ((place : ℕ) (call : Call) → slice_get calls place ≡ Some call → Fits plan call)
    → IsSettled (newcomer number replicas (first_record plan) calls)
newcomer_settled number replicas plan calls within sound room few fits = record {
  sound = sound;
  fits = fits;
  few = few;
  room = room;
  closed_numbers = λ place stay h. absurd (none_closed place stay h);
  present_number = refl;
  closed = λ place stay h. absurd (none_closed place stay h);
  open_stay = record { plan_is = refl; made = record { reachable = within; state_is = refl }; within = within; shallow = omega arith; done = none_done 0 calls };
  answered = λ place answer h. absurd (none_answered place answer h);
  rising = λ earlier late first second m n le h g e f. absurd (none_answered earlier first h);
  counted = tt;
  wanting = λ point h. absurd (none_wanted point h);
}

-- ---- what is right stays right where the replica was in all records and at all points in which it was
pub right_stays : (before after : Replica) → after.number ≡ before.number → ((epoch : Record) → WasIn before epoch → WasIn after epoch)
    → ((epoch : Record) (point : Tree) → WasAt before epoch point → WasAt after epoch point)
    → (place : ℕ) (call : Call) (answer : Answer) → IsRight before place call answer → IsRight after place call answer
right_stays before after number was_in was_at place call (Done epoch id) h = was_in epoch h
right_stays before after number was_in was_at place call (Broken epoch point) h = (was_at epoch point h.0, h.1)
right_stays before after number was_in was_at place call (Moved epoch point id) h = record {
  in_record = was_in epoch h.in_record;
  by_is = h.by_is ∙ ap (λ (n : ℕ). let by : Option By = Some (record { replica = n; place = place; count = id.count }) in by) (sym number);
  before = h.before;
  before_is = h.before_is;
  at_point = was_at h.before point h.at_point;
  outside = h.outside;
}
right_stays before after number was_in was_at place call (Refused point parts) h = record {
  own = h.own;
  own_is = ap (slice_get parts) number ∙ h.own_is;
  at_own = was_at h.own.epoch h.own.expression.tree h.at_own;
  seats = h.seats;
  of_one = h.of_one;
  made = h.made;
  at_point = was_at h.own.epoch point h.at_point;
  outside = h.outside;
  breaks = h.breaks;
}

-- ---- accepted calls never fall
stay_number : (replica : Replica) (stay : Stay) → IsSettled replica → Contains (stays replica) stay → stay.epoch.number ≤ replica.epoch.number
stay_number replica stay settled h =
    ⊎_elim
    (λ closed.
    let at = place_of replica.closings stay closed in
    omega (arith, settled.closed_numbers at.0 stay at.1, slice_get_within replica.closings at.0 stay at.1, settled.present_number))
    (λ now. let same = ap (λ (s : Stay). s.epoch.number) now in omega (arith, same))
    (snoc_has replica.closings (present replica) stay h)

pub was_in_number : (replica : Replica) (epoch : Record) → IsSettled replica → WasIn replica epoch → epoch.number ≤ replica.epoch.number
was_in_number replica epoch settled h = subst (λ (e : Record). e.number ≤ replica.epoch.number) h.2 (stay_number replica h.0 settled h.1)

accepted_bound : (replica : Replica) (place : ℕ) (answer : Answer) (m : ℕ) → IsSettled replica → slice_get replica.replies place ≡ Some answer → accepted_in answer ≡ Some m
    → m ≤ replica.epoch.number
accepted_bound replica place (Done epoch id) m settled h e =
    subst (λ (n : ℕ). n ≤ replica.epoch.number) (same_Some epoch.number m e) (was_in_number replica epoch settled (settled.answered place (Done epoch id) h).2)
accepted_bound replica place (Broken epoch point) m settled h e = cc
accepted_bound replica place (Moved epoch point id) m settled h e =
    subst (λ (n : ℕ). n ≤ replica.epoch.number) (same_Some epoch.number m e) (was_in_number replica epoch settled (settled.answered place (Moved epoch point id) h).2.in_record)
accepted_bound replica place (Refused point parts) m settled h e = cc

-- with one reply more, of no earlier record
pub rising_more : (replica : Replica) (last : Answer) → IsSettled replica → ((n : ℕ) → accepted_in last ≡ Some n → replica.epoch.number ≤ n) → NeverFall (replica.replies ++ last ∷ [])
rising_more replica last settled above earlier late first second m n le h g e f =
    ⊎_elim
    (λ new.
    let top : replica.epoch.number ≤ n = above n (ap accepted_in (sym new.1) ∙ f) in
    ⊎_elim
    (λ both. let same : m ≡ n = same_Some m n (sym e ∙ ap accepted_in (both.1 ∙ sym new.1) ∙ f) in omega (arith, same))
    (λ old. omega (arith, accepted_bound replica earlier first m settled old e, top))
    (push_cases_at replica.replies earlier last first h))
    (λ old.
    ⊎_elim
    (λ clash. absurd (omega (arith, clash.0, le, slice_get_within replica.replies late second old)))
    (λ both. settled.rising earlier late first second m n le both old e f)
    (push_cases_at replica.replies earlier last first h))
    (push_cases_at replica.replies late last second g)

-- ---- one reply more
pub last_answered : (before after : Replica) (call : Call) (last : Answer) → IsSettled before → next_call before ≡ Some call
    → ((place : ℕ) (call : Call) (answer : Answer) → IsRight before place call answer → IsRight after place call answer)
    → IsRight after (length before.replies) call last
    → (place : ℕ) (answer : Answer) → slice_get (before.replies ++ last ∷ []) place ≡ Some answer
    → (call : Call) × (slice_get before.calls place ≡ Some call) × IsRight after place call answer
last_answered before after call last settled next stays_right right place answer h =
    ⊎_elim
    (λ new. (
      call,
      subst (λ (n : ℕ). slice_get before.calls n ≡ Some call) (sym new.0) next,
      subst (λ (n : ℕ). IsRight after n call answer) (sym new.0) (subst (λ (a : Answer). IsRight after (length before.replies) call a) (sym new.1) right),
    ))
    (λ old. let was = settled.answered place answer old in (was.0, was.1, stays_right place was.0 answer was.2))
    (push_cases_at before.replies place last answer h)

-- ---- a replica with more

-- the replica with another expression, another wanted point and other replies
abbrev pub with_more : Replica → Expression → Option Tree → List Answer → Replica
with_more r expression wanted replies = record r { expression = expression; wanted = wanted; replies = replies }

-- what was on the spine of a tree is on that of another
abbrev pub IsLonger : Tree → Tree → Type 0
IsLonger tree more = (point : Tree) → Contains (spine tree) point → Contains (spine more) point

pub own_spine : (tree : Tree) → Contains (spine tree) tree
own_spine Start = first_is Start []
own_spine (Apply id call inner) = first_is (Apply id call inner) (spine inner)
own_spine (Merge left right) = first_is (Merge left right) (spine left)

pub was_here : (r : Replica) (point : Tree) → Contains (spine r.expression.tree) point → WasAt r r.epoch point
was_here r point h = (present r, last_is r.closings (present r), refl, h)

was_in_more : (r : Replica) (expression : Expression) (wanted : Option Tree) (replies : List Answer) (epoch : Record) → WasIn r epoch
    → WasIn (with_more r expression wanted replies) epoch
was_in_more r expression wanted replies epoch h =
    let more = with_more r expression wanted replies in
    ⊎_elim
    (λ old. (h.0, Contains-append_left r.closings (present more ∷ []) h.0 old, h.2))
    (λ same. (present more, last_is r.closings (present more), ap (λ (stay : Stay). stay.epoch) same ∙ h.2))
    (snoc_has r.closings (present r) h.0 h.1)

was_at_more : (r : Replica) (expression : Expression) (wanted : Option Tree) (replies : List Answer) → IsLonger r.expression.tree expression.tree
    → (epoch : Record) (point : Tree) → WasAt r epoch point → WasAt (with_more r expression wanted replies) epoch point
was_at_more r expression wanted replies longer epoch point h =
    let more = with_more r expression wanted replies in
    ⊎_elim
    (λ old. (h.0, Contains-append_left r.closings (present more ∷ []) h.0 old, h.2, h.3))
    (λ same. (
      present more,
      last_is r.closings (present more),
      ap (λ (stay : Stay). stay.epoch) same ∙ h.2,
      longer point (subst (λ (stay : Stay). Contains (spine stay.tree) point) (sym same) h.3),
    ))
    (snoc_has r.closings (present r) h.0 h.1)

more_right : (r : Replica) (expression : Expression) (wanted : Option Tree) (replies : List Answer) → IsLonger r.expression.tree expression.tree
    → (place : ℕ) (call : Call) (answer : Answer) → IsRight r place call answer → IsRight (with_more r expression wanted replies) place call answer
more_right r expression wanted replies longer =
    right_stays r (with_more r expression wanted replies) refl (was_in_more r expression wanted replies) (was_at_more r expression wanted replies longer)

-- what was there stays right when the replies go on, if the closed records get no more calls
pub record IsMore (r : Replica) (expression : Expression) (wanted : Option Tree) (replies : List Answer) : Type 0 where
  pub room : r.expression.room ≤ expression.room
  pub open_stay : IsStay (with_more r expression wanted replies) (present (with_more r expression wanted replies))
  pub closed : (number : ℕ) → number < length r.closings → done_in number r.calls replies ≡ done_in number r.calls r.replies
  pub answered : (place : ℕ) (answer : Answer) → slice_get replies place ≡ Some answer
      → (call : Call) × (slice_get r.calls place ≡ Some call) × IsRight (with_more r expression wanted replies) place call answer
  pub rising : NeverFall replies
  pub counted : AreCounted r.number 0 (accepted_ids replies)
  pub wanting : (point : Tree) → wanted ≡ Some point → IsWanted (with_more r expression wanted replies) point

more_settled : (r : Replica) (e : Expression) (w : Option Tree) (x : List Answer) → IsSettled r → IsMore r e w x → IsSettled (with_more r e w x)
more_settled r e w x s more = record {
  sound = s.sound;
  fits = s.fits;
  few = s.few;
  room = omega (arith, s.room, more.room);
  closed_numbers = s.closed_numbers;
  present_number = s.present_number;
  closed = λ place stay h.
      let old = s.closed place stay h in
      let below : stay.epoch.number < length r.closings = rw (s.closed_numbers place stay h) (slice_get_within r.closings place stay h) in
      record { plan_is = old.plan_is; made = old.made; within = old.within; shallow = old.shallow; done = more.closed stay.epoch.number below ∙ old.done };
  open_stay = more.open_stay;
  answered = more.answered;
  rising = more.rising;
  counted = more.counted;
  wanting = more.wanting;
}

-- ---- a reply that accepts nothing: the call was aborted, or refused
abbrev pub AcceptsNone : Answer → Type 0
AcceptsNone answer = (accepted_ids (answer ∷ []) ≡ []) × ((n : ℕ) → accepted_in answer ≡ Some n → ⊥) × IsOther answer

pub rejected_settled : (r : Replica) (call : Call) (last : Answer) → IsSettled r → next_call r ≡ Some call → AcceptsNone last
    → IsRight (record r { wanted = None; replies = r.replies ++ last ∷ [] }) (length r.replies) call last → IsSettled (record r { wanted = None; replies = r.replies ++ last ∷ [] })
rejected_settled r call last s next none right =
    let replies : List Answer = r.replies ++ last ∷ [] in
    let same : accepted_ids replies ≡ accepted_ids r.replies =
    accepted_ids-append r.replies (last ∷ []) ∙ ap (λ (ids : List Id). accepted_ids r.replies ++ ids) none.0 ∙ append-nil (accepted_ids r.replies) in
    let old = s.open_stay in
    more_settled r r.expression None replies s (record {
      room = omega arith;
      open_stay = record {
        plan_is = refl;
        made = old.made;
        within = old.within;
        shallow = old.shallow;
        done = done_in-other r.epoch.number r.calls r.replies last none.2 ∙ old.done;
      };
      closed = λ number below. done_in-other number r.calls r.replies last none.2;
      answered = last_answered r (with_more r r.expression None replies) call last s next (more_right r r.expression None replies (λ point h. h)) right;
      rising = rising_more r last s (λ n e. absurd (none.1 n e));
      counted = subst (AreCounted r.number 0) (sym same) s.counted;
      wanting = λ point h. absurd (none_wanted point h);
    })

-- ---- the rows

pub broken_settled : (r : Replica) (call : Call) → IsSettled r → next_call r ≡ Some call → Breaks r.epoch r.expression.tree call → IsSettled (with_broken r)
broken_settled r call s next breaks =
    rejected_settled r call (Broken r.epoch r.expression.tree) s next (refl, (λ n e. cc), (λ at id e. cc))
    (was_here (with_broken r) r.expression.tree (own_spine r.expression.tree), breaks)

-- the three parts of being inside
pub record InsideParts (epoch : Record) (tree : Tree) (call : Call) : Type 0 where
  pub runs : RunsIn epoch.plan epoch.segment call
  pub within : IsInSegment epoch.plan epoch.segment (result_of epoch tree call)
  pub shallow : depth tree < epoch.plan.depth

pub inside_parts : (epoch : Record) (tree : Tree) (call : Call) → IsInside epoch tree call → InsideParts epoch tree call
inside_parts epoch tree call h =
    let runs = lists (slice_get epoch.plan.segments epoch.segment) call.txn in
    let within = is_in_segment epoch.plan epoch.segment (result_of epoch tree call) in
    let shallow = nat_lt (depth tree) epoch.plan.depth in
    let first = left_true (runs && within) shallow h in
    record {
      runs = left_true runs within first;
      within = right_true runs within first;
      shallow = below (right_true (runs && within) shallow h);
    }
  where
    below : IsTrue (nat_lt (depth tree) epoch.plan.depth) → depth tree < epoch.plan.depth
    below h = grind (arith, nat_tests)

one_more_here : (number : ℕ) (id : Id) (call : Call) → one_more (number == number) id call ≡ (id, call) ∷ []
one_more_here number id call = ap (λ (b : Bool). one_more b id call) (eq-eqb number number refl)

none_elsewhere : (at number : ℕ) (id : Id) (call : Call) → number < at → one_more (at == number) id call ≡ []
none_elsewhere at number id call below = ap (λ (b : Bool). one_more b id call) (not_equal at number below)
  where
    not_equal : (at number : ℕ) → number < at → (at == number) ≡ false
    not_equal at number below = grind arith

pub counted_next : (r : Replica) → AreCounted r.number 0 (accepted_ids r.replies) → AreCounted r.number 0 (accepted_ids r.replies ++ next_id r ∷ [])
counted_next r h =
    let e : 0 + accepted r ≡ accepted r = omega arith in
    subst (λ (n : ℕ). AreCounted r.number 0 (accepted_ids r.replies ++ record { replica = r.number; count = n } ∷ [])) e (counted_more r.number (accepted_ids r.replies) 0 h)

pub done_settled : (r : Replica) (call : Call) → IsSettled r → next_call r ≡ Some call → IsInside r.epoch r.expression.tree call → IsSettled (with_done r call)
done_settled r call s next inside =
    let id = next_id r in
    let last = Done r.epoch id in
    let replies = r.replies ++ last ∷ [] in
    let expression : Expression = record { tree = Apply id call r.expression.tree; room = r.expression.room } in
    let more = with_more r expression None replies in
    let ids : accepted_ids replies ≡ accepted_ids r.replies ++ id ∷ [] = accepted_ids-append r.replies (last ∷ []) in
    let old = s.open_stay in
    let parts = inside_parts r.epoch r.expression.tree call inside in
    more_settled r expression None replies s (record {
      room = omega arith;
      open_stay = record {
        plan_is = refl;
        made = record { reachable = (old.made.reachable, s.fits (length r.replies) call next, parts.runs, parts.within); state_is = refl };
        within = parts.within;
        shallow = let below = parts.shallow in omega arith;
        done = done_in-done r.epoch.number r.calls r.replies call r.epoch id next
            ∙ ap (λ (done : List (Id × Call)). done ++ one_more (r.epoch.number == r.epoch.number) id call) old.done
            ∙ ap (λ (done : List (Id × Call)). spine_calls r.expression.tree ++ done) (one_more_here r.epoch.number id call);
      };
      closed = λ number below.
          done_in-done number r.calls r.replies call r.epoch id next
          ∙ ap (λ (done : List (Id × Call)). done_in number r.calls r.replies ++ done) (none_elsewhere r.epoch.number number id call (rw s.present_number below))
          ∙ append-nil (done_in number r.calls r.replies);
      answered = last_answered r more call last s next
          (more_right r expression None replies (λ point h. later expression.tree point (spine r.expression.tree) h))
          (present more, last_is r.closings (present more), refl);
      rising = rising_more r last s (λ n e. omega (arith, same_Some r.epoch.number n e));
      counted = rw ids (counted_next r s.counted);
      wanting = λ point h. absurd (none_wanted point h);
    })

pub wanted_settled : (r : Replica) (call : Call) → IsSettled r → next_call r ≡ Some call → IsOutside r.epoch r.expression.tree call → IsSettled (with_wanted r)
wanted_settled r call s next outside =
    let tree = r.expression.tree in
    let more = with_more r r.expression (Some tree) r.replies in
    more_settled r r.expression (Some tree) r.replies s (record {
      room = omega arith;
      open_stay = let old = s.open_stay in record { plan_is = refl; made = old.made; within = old.within; shallow = old.shallow; done = old.done };
      closed = λ number below. refl;
      answered = λ place answer h.
          let was = s.answered place answer h in
          (was.0, was.1, more_right r r.expression (Some tree) r.replies (λ point p. p) place was.0 answer was.2);
      rising = s.rising;
      counted = s.counted;
      wanting = λ point h.
          let here = same_Some tree point h in
          subst (λ (p : Tree). IsWanted more p) here (record { at_point = own_spine tree; call = call; call_is = next; outside = outside });
    })

pub merged_settled : (r : Replica) (message : Message) → ClosedSegmentHoldsValues → MergeIsIdempotent → SegmentIsWhole → IsSettled r
    → IsReachable r.epoch.plan r.epoch.segment r.epoch.opening message.expression.tree
    → max (depth r.expression.tree) (depth message.expression.tree) < r.epoch.plan.depth → IsSettled (with_merged r message)
merged_settled r message holds idempotent whole s reachable shallow =
    let expression : Expression = record {
      tree = Merge r.expression.tree message.expression.tree;
      room = max r.expression.room message.expression.room;
    } in
    let more = with_more r expression r.wanted r.replies in
    let old = s.open_stay in
    let both : IsReachable r.epoch.plan r.epoch.segment r.epoch.opening expression.tree = (old.made.reachable, reachable) in
    let longer : IsLonger r.expression.tree expression.tree = λ point h. later expression.tree point (spine r.expression.tree) h in
    more_settled r expression r.wanted r.replies s (record {
      room = omega arith;
      open_stay = record {
        plan_is = refl;
        made = record { reachable = both; state_is = refl };
        within = value_within r.epoch.plan r.epoch.segment r.epoch.opening expression.tree holds idempotent whole s.sound both;
        shallow = omega (arith, shallow);
        done = old.done;
      };
      closed = λ number below. refl;
      answered = λ place answer h.
          let was = s.answered place answer h in
          (was.0, was.1, more_right r expression r.wanted r.replies longer place was.0 answer was.2);
      rising = s.rising;
      counted = s.counted;
      wanting = λ point h.
          let was = s.wanting point h in record { at_point = longer point was.at_point; call = was.call; call_is = was.call_is; outside = was.outside };
    })

-- ---- the whole machine

-- what a replica answers to a call and is then, by what is known of the call
tried_by : Replica → Call → Bool → Bool → Submitted × Replica
tried_by r call breaks inside = if breaks then (answer.Broken, with_broken r) else if inside then (answer.Done (next_id r), with_done r call) else (answer.Wants, with_wanted r)

by_settled : (r : Replica) (call : Call) → IsSettled r → next_call r ≡ Some call → (b i : Bool) → breaks r.epoch r.expression.tree call ≡ b
    → is_inside r.epoch r.expression.tree call ≡ i → IsSettled (tried_by r call b i).1
unfolding tried_by
by_settled r call s next true i e f = broken_settled r call s next e
by_settled r call s next false true e f = done_settled r call s next f
by_settled r call s next false false e f = wanted_settled r call s next (ap not f)

tried_settled : (r : Replica) (next : Option Call) → next_call r ≡ next → IsSettled r → IsSettled (tried r next).1
unfolding tried_by
tried_settled r None is s = s
tried_settled r (Some call) is s = by_settled r call s is (breaks r.epoch r.expression.tree call) (is_inside r.epoch r.expression.tree call) refl refl

pub submit_keeps : SubmitKeeps
submit_keeps r s = tried_settled r (next_call r) refl s

-- the same for what was sent
received_by : Message → Replica → Bool → Bool → Received × Replica
received_by m r same deep = if same then (if deep then (answered.Deep, r) else (answered.Merged, with_merged r m)) else (answered.Stale, r)

pub reachable_here : (m : Message) (r : Replica) → r.epoch ≡ m.epoch → IsMade m.epoch m.state m.expression.tree
    → IsReachable r.epoch.plan r.epoch.segment r.epoch.opening m.expression.tree
reachable_here m r same made = subst (λ (e : Record). IsReachable e.plan e.segment e.opening m.expression.tree) (sym same) made.reachable

pub not_deep : (limit deepest : ℕ) → nat_le limit deepest ≡ false → deepest < limit
not_deep limit deepest h = grind (arith, nat_tests)

received_settled : (m : Message) (r : Replica) → ClosedSegmentHoldsValues → MergeIsIdempotent → SegmentIsWhole → SameExactly → IsMade m.epoch m.state m.expression.tree → IsSettled r
    → (same deep : Bool) → is_same_record r.epoch m.epoch ≡ same → is_deep r m ≡ deep → IsSettled (received_by m r same deep).1
unfolding received_by
received_settled m r holds idempotent whole exactly made s false deep e f = s
received_settled m r holds idempotent whole exactly made s true true e f = s
received_settled m r holds idempotent whole exactly made s true false e f =
    merged_settled r m holds idempotent whole s (reachable_here m r ((exactly r.epoch m.epoch).0 e) made)
    (not_deep r.epoch.plan.depth (max (depth r.expression.tree) (depth m.expression.tree)) f)

pub receive_keeps : ClosedSegmentHoldsValues → MergeIsIdempotent → SegmentIsWhole → SameExactly → ReceiveKeeps
unfolding received_by
receive_keeps holds idempotent whole exactly m r made s =
    received_settled m r holds idempotent whole exactly made s (is_same_record r.epoch m.epoch) (is_deep r m) refl refl
