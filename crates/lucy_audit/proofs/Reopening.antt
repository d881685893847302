-- An opening that is computed again, from what all replicas had of the record before.
use Rattle.std.proofs.Common.{◌≡◌, ◌≢◌, ◌⊎◌, ◌<◌, ◌≤◌, ◌+◌, ◌++◌, ℕ, zero, suc, ℤ, Bool, true, false, List, [], ◌∷◌, length, map, drop, get_or, refl, sym, ap, ◌∙◌, subst, inl, inr, ⊎_elim, arith}
use Rattle.std.specs.Prelude.{Option, Some, None, IsTrue, slice_get, unwrap_or, fold}
use Rattle.std.proofs.lemmas.List.{length-map, drop_more}
use Rattle.std.proofs.lemmas.Option.{same_Some, slice_get_within, slice_get-get_or, get_or_from_slice_get}
use Rattle.std.proofs.Math.ListN.{drop_of_length-le}
use Rattle.lucy_model.specs.declared.leaves.Leaf.{Leaf}
use Rattle.lucy_model.specs.Merging.{merged, merged_all}
use Rattle.lucy_plan.specs.Calls.{Fits}
use Rattle.lucy_plan.specs.Laws.{SegmentIsWhole}
use Rattle.lucy_plan.specs.Segments.{first_segment}
use Rattle.lucy_plan.specs.declared.parts.Call.{Call}
use Rattle.lucy_plan.specs.declared.parts.PlanParts.{PlanParts}
use Rattle.lucy_expr.specs.Trees.{Tree, value}
use Rattle.lucy_expr.specs.declared.ids.Id.{Id}
use Rattle.lucy_epochs.specs.declared.causes.By.{By}
use Rattle.lucy_epochs.specs.Records.{Record, next_opening, next_record}
use Rattle.lucy_epochs.proofs.Merges.{value_length, merged_length}
use Rattle.lucy_replica.specs.Replicas.{Answer, Moved, Stay, Replica, Seen, present, stays}
use Rattle.lucy_replica.specs.Openings.{tree_at, tree_in, trees_in, IsOpening, IsReplied}
use Rattle.lucy_replica.specs.Facts.{IsStay, IsSettled}
use Rattle.lucy_replica.specs.Legal.{records_of}
use Rattle.lucy_audit.specs.Differences.{Left, IsAt, HasRecord, IsLater, IsOtherOpening, IsUnnamed, IsMoveTo, named_reply, reply_in, id_of}
use Rattle.lucy_audit.specs.Checks.{AreFine, IsOpened, AreFirst, IsMoveBy, IsNamed, named_call, call_in, Had, HadAll, state_in, states_in, IsOpeningOf}
use Rattle.lucy_audit.proofs.Places.{one_at, from_map, to_map, exists_at, contains_at}
use Rattle.lucy_audit.proofs.Agreeing.{stay_is}

-- ---- the merge of what all had

pub had_state : (epoch : Record) (number : ℕ) (replica : Replica) (state : List ℤ) → Had epoch number replica
    → ((stay : Stay) → slice_get (stays replica) number ≡ Some stay → state ≡ stay.state) → state ≡ state_in epoch number replica
had_state epoch number replica state had is =
    let tree : tree_in number replica ≡ had.stay.tree = ap tree_at had.stay_is in
    let made : had.stay.state ≡ value epoch.plan epoch.opening had.stay.tree =
    had.made.state_is ∙ ap (λ (e : Record). value e.plan e.opening had.stay.tree) had.epoch_is in
    is had.stay had.stay_is ∙ made ∙ ap (λ (t : Tree). value epoch.plan epoch.opening t) (sym tree)

pub had_long : (epoch : Record) (number : ℕ) (replica : Replica) → SegmentIsWhole → Had epoch number replica → length (state_in epoch number replica) ≡ length epoch.plan.object
had_long epoch number replica whole had =
    let tree : tree_in number replica ≡ had.stay.tree = ap tree_at had.stay_is in
    let long = value_length had.stay.epoch.plan had.stay.epoch.segment had.stay.epoch.opening had.stay.tree whole had.made.reachable in
    let long_here : length (value epoch.plan epoch.opening had.stay.tree) ≡ length epoch.plan.object =
    subst (λ (e : Record). length (value e.plan e.opening had.stay.tree) ≡ length e.plan.object) had.epoch_is long in
    ap (λ (t : Tree). length (value epoch.plan epoch.opening t)) tree ∙ long_here

-- the states before a place are merged
pub record AreMergedTo (object : List Leaf) (states : List (List ℤ)) (place : ℕ) (state : List ℤ) : Type 0 where
  pub long : length state ≡ length object
  pub same : fold (merged object) state (drop place states) ≡ merged_all object states

pub merged_first : (object : List Leaf) (states : List (List ℤ)) (state : List ℤ) → slice_get states 0 ≡ Some state → length state ≡ length object → AreMergedTo object states 1 state
merged_first object [] state at long = cc
merged_first object (first ∷ states) state at long = record {
  long = long;
  same = ap (λ (s : List ℤ). fold (merged object) s states) (sym (same_Some first state at));
}

pub merged_one_more : (object : List Leaf) (states : List (List ℤ)) (place : ℕ) (state other next : List ℤ) → AreMergedTo object states place state
    → slice_get states place ≡ Some other → length other ≡ length object → next ≡ merged object state other → AreMergedTo object states (place + 1) next
merged_one_more object states place state other next are at long is =
    let below = slice_get_within states place other at in
    let split : drop place states ≡ other ∷ drop (place + 1) states =
    drop_more states place other below ∙ ap (λ (s : List ℤ). s ∷ drop (place + 1) states) (get_or_from_slice_get states place other other at) in
    let same : fold (merged object) (merged object state other) (drop (place + 1) states) ≡ merged_all object states =
    subst (λ (rest : List (List ℤ)). fold (merged object) state rest ≡ merged_all object states) split are.same in
    record {
      long = ap (λ (s : List ℤ). length s) is ∙ merged_length object state other are.long long;
      same = ap (λ (s : List ℤ). fold (merged object) s (drop (place + 1) states)) is ∙ same;
    }

pub merged_last : (object : List Leaf) (states : List (List ℤ)) (place : ℕ) (state : List ℤ) → length states ≤ place → AreMergedTo object states place state → state ≡ merged_all object states
merged_last object states place state past are =
    ap (λ (rest : List (List ℤ)). fold (merged object) state rest) (sym (drop_of_length-le states past)) ∙ are.same

-- ---- what stands in the records of a replica

-- what a replica has of the record of a number has that number
pub append_cases : {A : Type 0} (xs : List A) (y z : A) (place : ℕ) → slice_get (xs ++ y ∷ []) place ≡ Some z → (slice_get xs place ≡ Some z) ⊎ ((place ≡ length xs) × (y ≡ z))
append_cases [] y z zero h = inr (refl, same_Some y z h)
append_cases [] y z (suc place) h = cc
append_cases (x ∷ xs) y z zero h = inl h
append_cases (x ∷ xs) y z (suc place) h = ⊎_elim (λ l. inl l) (λ r. inr (ap suc r.0, r.1)) (append_cases xs y z place h)

number_of : (replica : Replica) (number : ℕ) (stay : Stay) → IsSettled replica → slice_get (stays replica) number ≡ Some stay → stay.epoch.number ≡ number
number_of replica number stay settled h =
    ⊎_elim
    (λ l. settled.closed_numbers number stay l)
    (λ r. ap (λ (s : Stay). s.epoch.number) (sym r.1) ∙ settled.present_number ∙ sym r.0)
    (append_cases replica.closings (present replica) stay number h)

-- what a replica has of a record that it has
pub record Has (replica : Replica) (number : ℕ) (epoch : Record) : Type 0 where
  pub stay : Stay
  pub stay_at : slice_get (stays replica) number ≡ Some stay
  pub epoch_is : stay.epoch ≡ epoch
  pub is : IsStay replica stay
  pub number_is : epoch.number ≡ number
  pub plan_is : epoch.plan ≡ replica.epoch.plan

pub has_of : (replica : Replica) (number : ℕ) (epoch : Record) → IsSettled replica → HasRecord replica number epoch → Has replica number epoch
has_of replica number epoch settled h =
    let found = from_map (λ (stay : Stay). stay.epoch) (stays replica) number epoch h in
    let is = stay_is replica found.0 settled (contains_at (stays replica) number found.0 found.1) in
    record {
      stay = found.0;
      stay_at = found.1;
      epoch_is = found.2;
      is = is;
      number_is = ap (λ (e : Record). e.number) (sym found.2) ∙ number_of replica number found.0 settled found.1;
      plan_is = ap (λ (e : Record). e.plan) (sym found.2) ∙ is.plan_is;
    }

-- each replica has the records of the first
record_too : (left : Left) (number at : ℕ) (first replica : Replica) (epoch : Record) → AreFine left → IsAt left 0 first → IsAt left at replica → HasRecord first number epoch
    → HasRecord replica number epoch
record_too left number at first replica epoch fine at_first at_replica has =
    let same = (fine.fine at (slice_get_within left.replicas at replica at_replica)).records replica first at_replica at_first in
    subst (λ (records : List Record). slice_get records number ≡ Some epoch) (sym same) has

pub had_all : (left : Left) (number : ℕ) (first : Replica) (epoch : Record) → AreFine left → IsAt left 0 first → HasRecord first number epoch → HadAll epoch number left.replicas
had_all left number first epoch fine at_first has at replica at_replica =
    let there = has_of replica number epoch (fine.settled at replica at_replica) (record_too left number at first replica epoch fine at_first at_replica has) in
    record { stay = there.stay; stay_is = there.stay_at; epoch_is = there.epoch_is; made = there.is.made }

-- ---- the call that is named

-- a call that has a reply is there
pub call_there : (left : Left) (after : Record) (by : By) → AreFine left → IsReplied left.replicas after by → (call : Call) × (named_call left.replicas by ≡ Some call)
call_there left after by fine replied =
    let opener = replied.opener in
    let place = slice_get_within opener.replies by.place _ replied.reply_is in
    let answered = (fine.fine by.replica (slice_get_within left.replicas by.replica opener replied.opener_at)).answered opener replied.opener_at in
    let call = exists_at opener.calls by.place (omega (arith, place, answered)) in
    (call.0, ap (λ (r : Option Replica). call_in r by.place) replied.opener_at ∙ call.1)

-- the replica of a call that is named
pub record Calling (left : Left) (by : By) (call : Call) : Type 0 where
  pub opener : Replica
  pub opener_at : IsAt left by.replica opener
  pub call_is : slice_get opener.calls by.place ≡ Some call

calling_in : (left : Left) (by : By) (call : Call) (found : Option Replica) → slice_get left.replicas by.replica ≡ found → call_in found by.place ≡ Some call → Calling left by call
calling_in left by call None at is = cc
calling_in left by call (Some opener) at is = record { opener = opener; opener_at = at; call_is = is }

pub calling : (left : Left) (by : By) (call : Call) → named_call left.replicas by ≡ Some call → Calling left by call
calling left by call is = calling_in left by call (slice_get left.replicas by.replica) refl is

-- it fits the record's plan
pub call_fits : (left : Left) (number : ℕ) (first : Replica) (before : Record) (by : By) (call : Call) → AreFine left → IsAt left 0 first → HasRecord first number before
    → named_call left.replicas by ≡ Some call → Fits before.plan call
call_fits left number first before by call fine at_first has named =
    let found = calling left by call named in
    let settled = fine.settled by.replica found.opener found.opener_at in
    let there = has_of found.opener number before settled (record_too left number by.replica first found.opener before fine at_first found.opener_at has) in
    subst (λ (plan : PlanParts). Fits plan call) (sym there.plan_is) (settled.fits by.place call found.call_is)

-- ---- together

-- two records of the first replica, one after the other, and the call that the later one names
pub record Follows (left : Left) (number : ℕ) (before after : Record) : Type 0 where
  pub first : Replica
  pub at_first : IsAt left 0 first
  pub before_has : HasRecord first number before
  pub after_has : HasRecord first (number + 1) after
  pub before_number : before.number ≡ number
  pub after_number : after.number ≡ number + 1
  pub same_plan : after.plan ≡ before.plan

pub follows : (left : Left) (number : ℕ) (before after : Record) → AreFine left → AreFirst left number (Some (before, after)) → Follows left number before after
follows left number before after fine h =
    let settled = fine.settled 0 h.0 h.1 in
    let had = has_of h.0 number before settled h.2 in
    let has = has_of h.0 (number + 1) after settled h.3 in
    record {
      first = h.0;
      at_first = h.1;
      before_has = h.2;
      after_has = h.3;
      before_number = had.number_is;
      after_number = has.number_is;
      same_plan = has.plan_is ∙ sym had.plan_is;
    }

pub is_later : (left : Left) (number : ℕ) (before after : Record) → Follows left number before after → IsLater left before after
is_later left number before after f = record {
  at = 0;
  replica = f.first;
  replica_at = f.at_first;
  number = number;
  before_is = f.before_has;
  after_is = f.after_has;
}

-- records are the same where their fields are
same_record : (one other : Record) → one.number ≡ other.number → one.segment ≡ other.segment → one.opening ≡ other.opening → one.plan ≡ other.plan → one.by ≡ other.by → one ≡ other
same_record one other number segment opening plan by =
    let made : ℕ → ℕ → List ℤ → PlanParts → Option By → Record = λ n s o p b. record { number = n; segment = s; opening = o; plan = p; by = b } in
    ap (λ (n : ℕ). made n one.segment one.opening one.plan one.by) number
    ∙ ap (λ (s : ℕ). made other.number s one.opening one.plan one.by) segment
    ∙ ap (λ (o : List ℤ). made other.number other.segment o one.plan one.by) opening
    ∙ ap (λ (p : PlanParts). made other.number other.segment other.opening p one.by) plan
    ∙ ap (made other.number other.segment other.opening other.plan) by

-- the opening is that of the record
pub opened_again : (left : Left) (number : ℕ) (before after : Record) (by : By) (call : Call) (result : List ℤ) → Follows left number before after → IsNamed left after by
    → named_call left.replicas by ≡ Some call → result ≡ next_opening before (trees_in left.replicas number) call → IsOpeningOf after result true → IsOpened left number
opened_again left number before after by call result f named call_is is same first other_before other_after at_first before_has after_has =
    let one_first : f.first ≡ first = one_at left.replicas 0 f.first first f.at_first at_first in
    let one_before : before ≡ other_before = one_at (records_of first) number before other_before (subst (λ (r : Replica). HasRecord r number before) one_first f.before_has) before_has in
    let one_after : after ≡ other_after = one_at (records_of first) (number + 1) after other_after (subst (λ (r : Replica). HasRecord r (number + 1) after) one_first f.after_has) after_has in
    let found = calling left by call call_is in
    let trees : result ≡ next_opening before (trees_in left.replicas before.number) call = is ∙ ap (λ (n : ℕ). next_opening before (trees_in left.replicas n) call) (sym f.before_number) in
    let opening : after.opening ≡ next_opening before (trees_in left.replicas before.number) call = sym same.0 ∙ trees in
    let segment : after.segment ≡ unwrap_or (first_segment before.plan (next_opening before (trees_in left.replicas before.number) call)) 0 =
    ap (λ (s : Option ℕ). unwrap_or s 0) (sym same.1)
    ∙ ap (λ (p : PlanParts). unwrap_or (first_segment p result) 0) f.same_plan
    ∙ ap (λ (numbers : List ℤ). unwrap_or (first_segment before.plan numbers) 0) trees in
    let after_is : after ≡ next_record before (trees_in left.replicas before.number) call by =
    same_record after (next_record before (trees_in left.replicas before.number) call by)
    (f.after_number ∙ ap (λ (n : ℕ). n + 1) (sym f.before_number)) segment opening f.same_plan named.0 in
    let is_opening : IsOpening left.replicas before after by = record { opener = found.opener; opener_at = found.opener_at; call = call; call_is = found.call_is; after_is = after_is } in
    subst (λ (b : Record). (name : By) × IsOpening left.replicas b other_after name × IsReplied left.replicas other_after name) one_before
    (subst (λ (a : Record). (name : By) × IsOpening left.replicas before a name × IsReplied left.replicas a name) one_after (by, is_opening, named.1))

-- it is another
pub opened_otherwise : (left : Left) (number : ℕ) (before after : Record) (by : By) (call : Call) (result : List ℤ) → Follows left number before after → IsNamed left after by
    → named_call left.replicas by ≡ Some call → result ≡ next_opening before (trees_in left.replicas number) call → IsOpeningOf after result false → IsOtherOpening left after result
opened_otherwise left number before after by call result f named call_is is differ =
    let found = calling left by call call_is in
    record {
      before = before;
      later = is_later left number before after f;
      by = by;
      by_is = named.0;
      opener = found.opener;
      opener_at = found.opener_at;
      call = call;
      call_is = found.call_is;
      result_is = is ∙ ap (λ (n : ℕ). next_opening before (trees_in left.replicas n) call) (sym f.before_number);
      differ = subst (λ (p : PlanParts). (result ≢ after.opening) ⊎ (first_segment p result ≢ Some after.segment)) f.same_plan differ;
    }

-- ---- the merge of what all had, life by life

abbrev replicas_of : List Seen → List Replica
replicas_of lives = map (λ (life : Seen). life.replica) lives

-- what was read of the life at a place is its state there
abbrev IsRead : List Seen → ℕ → Seen → ℕ → List ℤ → Type 0
IsRead lives place default number state = (stay : Stay) → slice_get (stays (get_or lives place default).replica) number ≡ Some stay → state ≡ stay.state

life_there : (lives : List Seen) (place : ℕ) (default : Seen) → place < length lives → slice_get (replicas_of lives) place ≡ Some (get_or lives place default).replica
life_there lives place default below = to_map (λ (l : Seen). l.replica) lives place (get_or lives place default) (slice_get-get_or lives place default below)

state_is : (before : Record) (number : ℕ) (lives : List Seen) (place : ℕ) (default : Seen) (state : List ℤ) → HadAll before number (replicas_of lives) → place < length lives
    → IsRead lives place default number state → state ≡ state_in before number (get_or lives place default).replica
state_is before number lives place default state had below read =
    let replica = (get_or lives place default).replica in
    had_state before number replica state (had place replica (life_there lives place default below)) read

state_there : (before : Record) (number : ℕ) (lives : List Seen) (place : ℕ) (default : Seen) (state : List ℤ) → HadAll before number (replicas_of lives) → place < length lives
    → IsRead lives place default number state → slice_get (states_in before number (replicas_of lives)) place ≡ Some state
state_there before number lives place default state had below read =
    to_map (state_in before number) (replicas_of lives) place (get_or lives place default).replica (life_there lives place default below)
    ∙ ap (λ (s : List ℤ). Some s) (sym (state_is before number lives place default state had below read))

pub state_long : (before : Record) (number : ℕ) (lives : List Seen) (place : ℕ) (default : Seen) (state : List ℤ) → SegmentIsWhole → HadAll before number (replicas_of lives)
    → place < length lives → IsRead lives place default number state → length state ≡ length before.plan.object
state_long before number lives place default state whole had below read =
    let replica = (get_or lives place default).replica in
    ap (λ (s : List ℤ). length s) (state_is before number lives place default state had below read)
    ∙ had_long before number replica whole (had place replica (life_there lives place default below))

pub merge_begun : (before : Record) (number : ℕ) (lives : List Seen) (default : Seen) (state : List ℤ) → SegmentIsWhole → HadAll before number (replicas_of lives)
    → 0 < length lives → IsRead lives 0 default number state → AreMergedTo before.plan.object (states_in before number (replicas_of lives)) 1 state
merge_begun before number lives default state whole had some read =
    merged_first before.plan.object (states_in before number (replicas_of lives)) state (state_there before number lives 0 default state had some read)
    (state_long before number lives 0 default state whole had some read)

pub merge_more : (before : Record) (number : ℕ) (lives : List Seen) (place : ℕ) (default : Seen) (state other next : List ℤ) → SegmentIsWhole → HadAll before number (replicas_of lives)
    → place < length lives → IsRead lives place default number other → next ≡ merged before.plan.object state other
    → AreMergedTo before.plan.object (states_in before number (replicas_of lives)) place state → AreMergedTo before.plan.object (states_in before number (replicas_of lives)) (place + 1) next
merge_more before number lives place default state other next whole had below read is are =
    merged_one_more before.plan.object (states_in before number (replicas_of lives)) place state other next are
    (state_there before number lives place default other had below read) (state_long before number lives place default other whole had below read) is

pub merge_done : (before : Record) (number : ℕ) (lives : List Seen) (place : ℕ) (state : List ℤ) → length lives ≤ place
    → AreMergedTo before.plan.object (states_in before number (replicas_of lives)) place state → state ≡ merged_all before.plan.object (states_in before number (replicas_of lives))
merge_done before number lives place state past are =
    let many = length-map (replicas_of lives) (state_in before number) in
    let lives_many = length-map lives (λ (life : Seen). life.replica) in
    merged_last before.plan.object (states_in before number (replicas_of lives)) place state (omega (arith, many, lives_many, past)) are

-- what a call makes of it is the next opening
pub states_are : (before : Record) (number : ℕ) (replicas : List Replica) → states_in before number replicas ≡ map (value before.plan before.opening) (trees_in replicas number)
states_are before number [] = refl
states_are before number (replica ∷ replicas) = ap (λ (states : List (List ℤ)). state_in before number replica ∷ states) (states_are before number replicas)

-- ---- the name of a record

replied_in : (left : Left) (after : Record) (by : By) (point : Tree) (found : Option Replica) → slice_get left.replicas by.replica ≡ found
    → reply_in found by.place ≡ Some (Moved after point (id_of by)) → IsReplied left.replicas after by
replied_in left after by point None at is = cc
replied_in left after by point (Some opener) at is = record { opener = opener; opener_at = at; point = point; reply_is = is }

-- the record names the call that has the reply that was looked up
pub named_by : (left : Left) (after here : Record) (given : Option By) (told : Option Answer) (by : By) → here ≡ after → given ≡ after.by → told ≡ named_reply left.replicas given
    → IsMoveBy here told (Some by) → IsNamed left after by
named_by left after here given told by same given_is told_is move =
    let moved : IsMoveBy after told (Some by) = subst (λ (e : Record). IsMoveBy e told (Some by)) same move in
    let reply : named_reply left.replicas (Some by) ≡ Some (Moved after moved.0 (id_of by)) =
    ap (named_reply left.replicas) (sym (given_is ∙ moved.1)) ∙ sym told_is ∙ moved.2 in
    (moved.1, replied_in left after by moved.0 (slice_get left.replicas by.replica) refl reply)

-- it names none that has
pub unnamed : (left : Left) (before after here kept : Record) (given : Option By) (told reply : Option Answer) → IsLater left before after → here ≡ after → kept ≡ after
    → given ≡ after.by → told ≡ named_reply left.replicas given → reply ≡ told → IsMoveBy here told None → IsUnnamed left kept reply
unnamed left before after here kept given told reply later here_is kept_is given_is told_is reply_is none =
    let same : here ≡ kept = here_is ∙ sym kept_is in
    let not_moved : ¬ (IsMoveTo kept told) = subst (λ (e : Record). ¬ (IsMoveTo e told)) same none in
    record {
      before = before;
      later = subst (λ (e : Record). IsLater left before e) (sym kept_is) later;
      reply_is = reply_is ∙ told_is ∙ ap (named_reply left.replicas) (given_is ∙ ap (λ (e : Record). e.by) (sym kept_is));
      differ = subst (λ (r : Option Answer). ¬ (IsMoveTo kept r)) (sym reply_is) not_moved;
    }

pub none_some : {A : Type 0} (x : A) → None ≡ Some x → ⊥
none_some x h = cc

pub not_true : (b : Bool) → b ≡ false → IsTrue b → ⊥
not_true b is h = cc

pub moved_record : (one other : Record) (point place : Tree) (id name : Id) → Moved one point id ≡ Moved other place name → one ≡ other
moved_record one other point place id name h = cc
