-- From checks of each record, reply, part and reach to what holds of all.
use Rattle.std.proofs.Common.{◌≡◌, ◌<◌, ◌+◌, ℕ, zero, suc, List, [], ◌∷◌, length, refl, sym, ap, ◌∙◌, subst, arith}
use Rattle.std.specs.Prelude.{Option, Some, None, slice_get, slice_index}
use Rattle.std.proofs.lemmas.List.{length-map, length-append}
use Rattle.std.proofs.lemmas.Option.{slice_get_within}
use Rattle.lucy_expr.specs.Trees.{Tree, reach}
use Rattle.lucy_expr.specs.Laws.{ReachCoversIds, ReachIsReached}
use Rattle.lucy_epochs.specs.Records.{Record}
use Rattle.lucy_replica.specs.Replicas.{Answer, Refused, Stay, Replica, present, stays}
use Rattle.lucy_replica.specs.Legal.{records_of, accepted_to, AreAccepted}
use Rattle.lucy_audit.specs.Differences.{Left, IsAt, IsOvercount, accepted_by}
use Rattle.lucy_audit.specs.Checks.{Below, IsKept, IsReachAccepted, IsStayCounted, IsReplyCounted, IsAnswerCounted, IsListed, IsListedAt, HasSameRecord, HasSameRecords, IsOpened}
use Rattle.lucy_audit.proofs.Places.{one_at, exists_at, same_lists}

-- a replica accepted some calls only where there is one
owner_of : (number : ℕ) (found : Option Replica) (count : ℕ) → count < accepted_by number found → (owner : Replica) × (found ≡ Some owner) × (count < accepted_to number owner.replies)
owner_of number None count h = absurd (omega (arith, h))
owner_of number (Some owner) count h = (owner, refl, h)

-- a number past the end of a list is 0
index_within : (reaches : List ℕ) (place count : ℕ) → count < slice_index reaches place → place < length reaches
index_within [] place count h = absurd (omega (arith, h))
index_within (first ∷ reaches) zero count h = omega arith
index_within (first ∷ reaches) (suc place) count h = let rest = index_within reaches place count h in omega (arith, rest)

-- where each reach was accepted, each call was
pub reaches_accepted : (left : Left) (number : ℕ) (tree : Tree) (reaches : List ℕ) → ReachCoversIds → ((replica : ℕ) → slice_index reaches replica ≡ reach replica tree)
    → Below (length reaches) (IsReachAccepted left number tree) → AreAccepted left.replicas number tree
reaches_accepted left number tree reaches covers are below id h =
    let count : id.count < reach id.replica tree = covers tree id h in
    let here : id.count < slice_index reaches id.replica = omega (arith, count, are id.replica) in
    let up = below id.replica (index_within reaches id.replica id.count here) in
    let accepted : id.count < accepted_by number (slice_get left.replicas id.replica) = omega (arith, count, up) in
    owner_of number (slice_get left.replicas id.replica) id.count accepted

-- a reach above what was accepted is that of a call that was not
pub overcount : (left : Left) (number : ℕ) (tree : Tree) (owner accepted : ℕ) → ReachIsReached → IsKept left number tree
    → accepted ≡ accepted_by number (slice_get left.replicas owner) → accepted < reach owner tree → IsOvercount left owner (reach owner tree) accepted
overcount left number tree owner accepted reached kept is over =
    let found = reached tree owner (omega (arith, over)) in
    record {
      at = kept.0;
      replica = kept.1;
      replica_at = kept.2;
      number = number;
      tree = tree;
      kept = kept.3;
      id = found.0;
      in_tree = found.1;
      owner_is = found.2;
      held_is = sym found.3;
      accepted_is = is;
      over = over;
    }

-- ---- all of a list, where each below its length

pub records_many : (replica : Replica) → length (records_of replica) ≡ length replica.closings + 1
records_many replica =
    let mapped = length-map (stays replica) (λ (stay : Stay). stay.epoch) in
    let joined = length-append replica.closings (present replica ∷ []) in
    omega (arith, mapped, joined)

pub all_stays : (left : Left) (place most : ℕ) (replica : Replica) → IsAt left place replica → most ≡ length (records_of replica) → Below most (IsStayCounted left place)
    → (number : ℕ) → IsStayCounted left place number
all_stays left place most replica at many below number other stay other_at stay_at =
    let same : replica ≡ other = one_at left.replicas place replica other at other_at in
    let within = slice_get_within (stays other) number stay stay_at in
    let mapped = length-map (stays other) (λ (s : Stay). s.epoch) in
    let many_other : most ≡ length (records_of other) = subst (λ (r : Replica). most ≡ length (records_of r)) same many in
    below number (omega (arith, within, mapped, many_other)) other stay other_at stay_at

pub all_replies : (left : Left) (place most : ℕ) (replica : Replica) → IsAt left place replica → most ≡ length replica.replies → Below most (IsReplyCounted left place)
    → (reply : ℕ) → IsReplyCounted left place reply
all_replies left place most replica at many below reply other point parts other_at reply_at =
    let same : replica ≡ other = one_at left.replicas place replica other at other_at in
    let within = slice_get_within other.replies reply (Refused point parts) reply_at in
    let many_other : most ≡ length other.replies = subst (λ (r : Replica). most ≡ length r.replies) same many in
    below reply (omega (arith, within, many_other)) other point parts other_at reply_at

pub all_listed : (left : Left) (most : ℕ) → most ≡ length left.table → Below most (IsListedAt left) → IsListed left
all_listed left most many below number first ours theirs at has in_table =
    let within = slice_get_within left.table number theirs in_table in
    below number (omega (arith, within, many)) first ours theirs at has in_table

pub all_records : (left : Left) (place most : ℕ) (replica first : Replica) → IsAt left place replica → IsAt left 0 first → most ≡ length (records_of replica) → most ≡ length (records_of first)
    → Below most (HasSameRecord left place) → HasSameRecords left place
all_records left place most replica first at at_first many many_first below other other_first other_at other_at_first =
    let same : replica ≡ other = one_at left.replicas place replica other at other_at in
    let same_first : first ≡ other_first = one_at left.replicas 0 first other_first at_first other_at_first in
    let equal : records_of replica ≡ records_of first =
    same_lists (records_of replica) (records_of first) (sym many ∙ many_first)
    (λ number h.
    let ours = exists_at (records_of replica) number h in
    let theirs = exists_at (records_of first) number (omega (arith, h, many, many_first)) in
    let one : ours.0 ≡ theirs.0 = below number (omega (arith, h, many)) replica first ours.0 theirs.0 at at_first ours.1 theirs.1 in
    ours.1 ∙ ap (λ (e : Record). Some e) one ∙ sym theirs.1) in
    subst (λ (r : Replica). records_of r ≡ records_of other_first) same (subst (λ (r : Replica). records_of replica ≡ records_of r) same_first equal)

pub all_opened : (left : Left) (most : ℕ) (first : Replica) → IsAt left 0 first → most ≡ length first.closings → Below most (IsOpened left) → (number : ℕ) → IsOpened left number
all_opened left most first at many below number other before after other_at before_is after_is =
    let same : first ≡ other = one_at left.replicas 0 first other at other_at in
    let within = slice_get_within (records_of other) (number + 1) after after_is in
    let counted = records_many other in
    let many_other : most ≡ length other.closings = subst (λ (r : Replica). most ≡ length r.closings) same many in
    below number (omega (arith, within, counted, many_other)) other before after other_at before_is after_is

-- a reply is counted where what it tells is
pub reply_counted : (left : Left) (place reply : ℕ) (replica : Replica) (answer : Answer) → IsAt left place replica → slice_get replica.replies reply ≡ Some answer
    → IsAnswerCounted left answer → IsReplyCounted left place reply
reply_counted left place reply replica answer at reply_at counted other point parts other_at refused =
    let same : replica ≡ other = one_at left.replicas place replica other at other_at in
    let there : slice_get other.replies reply ≡ Some answer = subst (λ (r : Replica). slice_get r.replies reply ≡ Some answer) same reply_at in
    let is : answer ≡ Refused point parts = one_at other.replies reply answer (Refused point parts) there refused in
    subst (IsAnswerCounted left) is counted

-- ---- what a replica has of one record

pub stay_counted : (left : Left) (place number : ℕ) (replica : Replica) (stay : Stay) → IsAt left place replica → slice_get (stays replica) number ≡ Some stay
    → AreAccepted left.replicas stay.epoch.number stay.tree → IsStayCounted left place number
stay_counted left place number replica stay at there accepted other found other_at found_at =
    let same : replica ≡ other = one_at left.replicas place replica other at other_at in
    let here : slice_get (stays other) number ≡ Some stay = subst (λ (r : Replica). slice_get (stays r) number ≡ Some stay) same there in
    let is : stay ≡ found = one_at (stays other) number stay found here found_at in
    subst (λ (s : Stay). AreAccepted left.replicas s.epoch.number s.tree) is accepted

pub stay_past : (left : Left) (place number : ℕ) (replica : Replica) → IsAt left place replica → length replica.closings < number → IsStayCounted left place number
stay_past left place number replica at past other found other_at found_at =
    let same : replica ≡ other = one_at left.replicas place replica other at other_at in
    let within = slice_get_within (stays other) number found found_at in
    let joined = length-append other.closings (present other ∷ []) in
    let closed : length other.closings < number = subst (λ (r : Replica). length r.closings < number) same past in
    absurd (omega (arith, within, joined, closed))
